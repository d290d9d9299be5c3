-- What a proxy passes on (RFC 9110, section 7.6.1).
use Rattle.std.specs.Prelude.{ℕ, Bool, List, [], ◌∷◌, Option, Some, None, codes, if◌then◌else◌}
use Rattle.std.specs.List.{filter_map, list_any}
use Rattle.std.specs.Option.{unwrap_or}
use Rattle.call_facts.specs.Pairs.{Pairs, header_value}
use Rattle.call_facts.specs.declared.answer.Answer.{Answer}
use Rattle.call_facts.specs.declared.request.WireReply.{WireReply}
use Rattle.gw_base.specs.Names.{lower, same_name}

-- the names of headers that concern one connection, and the gateway's own
abbrev pub held_back : List (List ℕ)
held_back =
    codes "host" ∷ codes "connection" ∷ codes "keep-alive" ∷ codes "proxy-connection" ∷ codes "transfer-encoding" ∷ codes "te" ∷
    codes "trailer" ∷ codes "upgrade" ∷ codes "expect" ∷ codes "content-length" ∷ codes "x-gateway-cause" ∷ []

abbrev pub is_among : List (List ℕ) → List ℕ → Bool
is_among names name = list_any (same_name name) names

-- a header goes on, with its name in lower case, unless its name is held back
abbrev pub passed : List ℕ × List ℕ → Option (List ℕ × List ℕ)
passed h = if is_among held_back h.0 then None else Some (lower h.0, h.1)

-- the headers that go on, in their order
abbrev pub passed_on_of : Pairs → Pairs
passed_on_of hs = filter_map passed hs

abbrev pub is_content_type : List ℕ × List ℕ → Bool
is_content_type h = same_name h.0 (codes "content-type")

-- the headers without their first content type
abbrev pub without_first : Pairs → Pairs
without_first [] = []
without_first (h ∷ hs) = if is_content_type h then hs else h ∷ without_first hs

-- the first content type, or JSON
abbrev pub content_type : Pairs → List ℕ
content_type hs = unwrap_or (header_value hs (codes "content-type")) (codes "application/json")

-- the first content type comes first, then the others in their order
abbrev pub typed : Pairs → Pairs
typed hs = (codes "content-type", content_type hs) ∷ without_first hs

-- the answer that passes a reply on: its status, its headers that go on, its body
abbrev pub proxied : WireReply → Answer
proxied reply = record { status = reply.status; headers = typed (passed_on_of reply.headers); body = reply.body }
