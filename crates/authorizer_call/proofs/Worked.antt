-- What the definitions compute of the orders API.
use Rattle.std.proofs.Common.{◌≡◌, ℕ, List, [], ◌∷◌, length, Some, codes, refl}
use Rattle.std.specs.Char.{encode_utf8}
use Rattle.std.specs.Str.{chars}
use Rattle.api_mappings.specs.Uris.{behind_host, can_be_port, is_port, pieces_of, uri_of, uri_pieces}
use Rattle.call_facts.specs.declared.target.Target.{Target}
use Rattle.gateway_vars.specs.Escapes.{json_char, json_string}
use Rattle.wire_text.specs.Destinations.{destination_of, port_number}
use Rattle.authorizer_call.specs.Names.{arn_of}
use Rattle.authorizer_call.specs.Requests.{place_of, question_of}

abbrev orders : Target
orders = record { api = codes "shop"; stage = codes "prod"; path = codes "/orders"; query = (codes "shop", codes "7") ∷ [] }

orders_name : arn_of orders (codes "POST") ≡ codes "arn:aws:execute-api:local:000000000000:shop/prod/POST/orders"
orders_name = refl

abbrev orders_body : List ℕ
orders_body = codes "{\"type\":\"TOKEN\",\"authorizationToken\":\"Bearer abc123\",\"methodArn\":\"arn:aws:execute-api:local:000000000000:shop/prod/POST/orders\"}"

orders_question : question_of (codes "Bearer abc123") (arn_of orders (codes "POST")) ≡ orders_body
unfolding question_of json_string json_char chars encode_utf8
orders_question = refl

orders_length : length orders_body ≡ 128
orders_length = refl

orders_place : place_of (codes "http://127.0.0.1:9001/auth") ≡ Some (record { host = codes "127.0.0.1"; port = 9001; port_text = codes "9001"; path = codes "/auth" })
unfolding place_of uri_of uri_pieces behind_host pieces_of can_be_port is_port destination_of port_number
orders_place = refl
