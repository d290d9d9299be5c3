-- The request that asks an authorizer about a token (API Gateway Developer Guide, "Input to an API Gateway Lambda authorizer").
use Rattle.std.specs.Prelude.{ℕ, List, [], ◌∷◌, ◌++◌, length, codes, Option}
use Rattle.std.specs.Fmt.{decimal}
use Rattle.std.specs.Option.{option_and_then, option_map}
use Rattle.api_mappings.specs.Uris.{uri_of}
use Rattle.api_parts.specs.declared.parts.Authorizer.{Authorizer}
use Rattle.backend_core.specs.declared.request.WireRequest.{WireRequest}
use Rattle.call_facts.specs.Pairs.{Pairs}
use Rattle.gateway_vars.specs.Escapes.{json_string}
use Rattle.wire_text.specs.Destinations.{destination_of}
use Rattle.wire_text.specs.Messages.{message_of}
use Rattle.wire_text.specs.declared.places.Destination.{Destination}

-- the body: the token and the name of the call, each as a JSON string (RFC 8259, section 7)
unfoldable pub question_of : List ℕ → List ℕ → List ℕ
question_of token arn = codes "{\"type\":\"TOKEN\",\"authorizationToken\":" ++ json_string token ++ codes ",\"methodArn\":" ++ json_string arn ++ codes "}"

-- `HOST:PORT`, as they are written
abbrev pub host_text : Destination → List ℕ
host_text to = to.host ++ codes ":" ++ to.port_text

-- the headers of a request with this body, in this order
abbrev pub headers_of : Destination → List ℕ → Pairs
headers_of to body =
    (codes "host", host_text to) ∷ (codes "content-type", codes "application/json") ∷ (codes "connection", codes "close") ∷
    (codes "content-length", decimal (length body)) ∷ []

-- a POST there, which is awaited for so many milliseconds
abbrev pub sent_to : ℕ → Destination → Pairs → List ℕ → WireRequest
sent_to timeout to headers body = record { host = to.host; port = to.port; timeout = timeout; bytes = message_of (codes "POST") to.path headers body }

-- a question that is asked there
abbrev pub asked_at : ℕ → List ℕ → Destination → WireRequest
asked_at timeout body to = sent_to timeout to (headers_of to body) body

-- where a uri leads that has neither stage variables nor placeholders
unfoldable pub place_of : List ℕ → Option Destination
place_of uri = option_and_then (λ u. destination_of u [] []) (uri_of uri)

-- what an authorizer is asked; nothing, where its uri leads nowhere
unfoldable pub authorizer_request_of : Authorizer → List ℕ → List ℕ → Option WireRequest
authorizer_request_of a token arn = option_map (asked_at a.timeout (question_of token arn)) (place_of a.uri)
