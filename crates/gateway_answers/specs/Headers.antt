-- The headers of a gateway response.
use Rattle.std.specs.Prelude.{ℕ, ◌==◌, nat_le, Bool, not, ◌&&◌, ◌||◌, List, [], ◌∷◌, ◌++◌, Option, Some, None, is_some, codes, if◌then◌else◌}
use Rattle.std.specs.List.{filter, filter_map, list_all}
use Rattle.std.specs.Option.{unwrap_or}
use Rattle.api_mappings.specs.Mappings.{gateway_target}
use Rattle.api_parts.specs.declared.parts.Origin.{Origin}
use Rattle.call_facts.specs.Kinds.{kind_name}
use Rattle.call_facts.specs.Pairs.{Pairs, header_value}
use Rattle.call_facts.specs.declared.kind.Kind.{Kind}
use Rattle.gateway_answers.specs.Values.{value_of}
use Rattle.gateway_vars.specs.Held.{Failed}
use Rattle.gw_base.specs.Names.{same_name}

-- a byte of a field's value (RFC 9110, section 5.5): no control character but the tab
unfoldable pub is_value_byte : ℕ → Bool
is_value_byte b = (nat_le 32 b && not (b == 127)) || b == 9

-- a field may be written where its name is a token and none of the gateway's own, and its value has no control characters
unfoldable pub may_be_written : List ℕ × List ℕ → Bool
may_be_written h = is_some (gateway_target h.0) && list_all is_value_byte h.1

abbrev pub if_written : List ℕ → Option (List ℕ) → Option (List ℕ × List ℕ)
if_written x None = None
if_written x (Some v) = if may_be_written (x, v) then Some (x, v) else None

-- a header of a rule, where it has a value and may be written
abbrev pub given_header : Failed → List ℕ × Origin → Option (List ℕ × List ℕ)
given_header failed h = if_written h.0 (value_of failed h.1)

-- those that are given, in the order of the rule
abbrev pub given : Failed → List (List ℕ × Origin) → Pairs
given failed hs = filter_map (given_header failed) hs

abbrev pub is_content_type : List ℕ × List ℕ → Bool
is_content_type h = same_name h.0 (codes "content-type")

-- the first content type that is given, else JSON
abbrev pub content_type : Pairs → List ℕ
content_type hs = unwrap_or (header_value hs (codes "content-type")) (codes "application/json")

abbrev pub others : Pairs → Pairs
others hs = filter (λ h. not (is_content_type h)) hs

-- the content type comes first, then the others in their order, and the cause last
abbrev pub headers_of : Kind → Pairs → Pairs
headers_of kind hs = (codes "content-type", content_type hs) ∷ (others hs ++ (codes "x-gateway-cause", kind_name kind) ∷ [])
