-- The headers of an answer.
use Rattle.std.specs.Prelude.{ℕ, Bool, not, List, [], ◌∷◌, fold, Option, Some, None, codes, if◌then◌else◌}
use Rattle.std.specs.List.{filter, filter_map}
use Rattle.std.specs.Option.{option_or, unwrap_or}
use Rattle.api_parts.specs.declared.parts.Mapping.{Mapping}
use Rattle.call_facts.specs.Pairs.{Pairs, header_value}
use Rattle.call_facts.specs.declared.request.WireReply.{WireReply}
use Rattle.gateway_answers.specs.Headers.{is_content_type}
use Rattle.gateway_vars.specs.Held.{Held}
use Rattle.gw_base.specs.Names.{same_name}
use Rattle.integration_flow.specs.Values.{value_of}

abbrev pub with_value : List ℕ → Option (List ℕ) → Option (List ℕ × List ℕ)
with_value x None = None
with_value x (Some v) = Some (x, v)

-- a mapped header, where its source has a value
abbrev pub mapped_header : Held → WireReply → Mapping → Option (List ℕ × List ℕ)
mapped_header held reply m = with_value m.name (value_of held reply m.origin)

-- those that are mapped, in the order of the rule
abbrev pub mapped : Held → WireReply → List Mapping → Pairs
mapped held reply ms = filter_map (mapped_header held reply) ms

-- the first content type that is mapped, else the media type whose template is rendered, else the reply's own, else JSON
abbrev pub content_type : Pairs → Option (List ℕ) → WireReply → List ℕ
content_type hs media reply = unwrap_or (option_or (header_value hs (codes "content-type")) (option_or media (header_value reply.headers (codes "content-type")))) (codes "application/json")

-- the headers without their first content type
abbrev pub without_first : Pairs → Pairs
without_first [] = []
without_first (h ∷ hs) = if is_content_type h then hs else h ∷ without_first hs

-- the content type comes first, then the mapped headers in their order
abbrev pub typed : Pairs → Option (List ℕ) → WireReply → Pairs
typed hs media reply = (codes "content-type", content_type hs media reply) ∷ without_first hs

abbrev pub without : Pairs → List ℕ → Pairs
without hs x = filter (λ h. not (same_name h.0 x)) hs

-- a header takes the place of the first of its name, and no other of that name stays; where there is none it comes last
abbrev pub replaced : Pairs → List ℕ × List ℕ → Pairs
replaced [] over = over ∷ []
replaced (h ∷ hs) over = if same_name h.0 over.0 then over ∷ without hs over.0 else h ∷ replaced hs over

-- the headers that a template writes over, one after another
abbrev pub written_over : Pairs → Pairs → Pairs
written_over hs overs = fold replaced hs overs
