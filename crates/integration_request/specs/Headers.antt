-- The headers of a request (RFC 9110, sections 7.2 and 8; RFC 9112, sections 6.2 and 9.6).
use Rattle.std.specs.Prelude.{ℕ, Bool, List, [], ◌∷◌, ◌++◌, length, codes, is_some, if◌then◌else◌}
use Rattle.std.specs.Fmt.{decimal}
use Rattle.call_facts.specs.Pairs.{Pairs, header_value}
use Rattle.gateway_answers.specs.Headers.{content_type}
use Rattle.wire_text.specs.declared.places.Destination.{Destination}

unfoldable pub has_type : Pairs → Bool
has_type hs = is_some (header_value hs (codes "content-type"))

-- headers with a content type: that which stands among them, else the first of the request, else JSON
abbrev pub with_type : Pairs → Pairs → Pairs
with_type asked hs = if has_type hs then hs else hs ++ (codes "content-type", content_type asked) ∷ []

-- `HOST:PORT`, as they are written
abbrev pub host_text : Destination → List ℕ
host_text to = to.host ++ codes ":" ++ to.port_text

-- the host comes first, and the connection and the length of the body last
abbrev pub framed : Destination → Pairs → List ℕ → Pairs
framed to hs body = (codes "host", host_text to) ∷ hs ++ (codes "connection", codes "close") ∷ [] ++ (codes "content-length", decimal (length body)) ∷ []
