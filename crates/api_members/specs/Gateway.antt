-- The gateway's own answers, by their kinds: `status`, `headers` and `template`.
use Rattle.std.specs.Prelude.{ℕ, Bool, ◌||◌, List, [], ◌∷◌, ◌++◌, codes, bytes_eq, if◌then◌else◌, Ok, Option, Some, None}
use Rattle.std.specs.List.{list_any}
use Rattle.json_subset.specs.Tree.{Tree}
use Rattle.api_parts.specs.Reading.{Text, Read, ◌>>=◌, each, here, unknown, Waiting, first_of, waiting_below}
use Rattle.api_parts.specs.Places.{fault_below}
use Rattle.api_parts.specs.declared.fault.ApiCause.TheVariants.{BadMapping}
use Rattle.api_parts.specs.declared.parts.GatewayRule.{GatewayRule}
use Rattle.api_parts.specs.declared.parts.Origin.{Origin}
use Rattle.api_parts.specs.declared.parts.ParameterPlace.{ParameterPlace}
use Rattle.api_mappings.specs.Mappings.{gateway_target, plain_source}
use Rattle.api_reading.specs.Values.{number_in, object_in, text_in}
use Rattle.api_members.specs.Small.{small_template_in}
use Rattle.api_members.specs.declared.gateway.HeadersRead.{HeadersRead}
use Rattle.api_members.specs.declared.gateway.GatewayRead.{GatewayRead}
use Rattle.api_members.specs.declared.gateway.GatewaysRead.{GatewaysRead}

-- the kinds of the gateway's own answers, and all of the client's and of the server's errors
abbrev pub kinds : List Text
kinds =
    codes "ACCESS_DENIED" ∷ codes "API_CONFIGURATION_ERROR" ∷ codes "AUTHORIZER_CONFIGURATION_ERROR" ∷ codes "AUTHORIZER_FAILURE"
    ∷ codes "BAD_REQUEST_PARAMETERS" ∷ codes "BAD_REQUEST_BODY" ∷ codes "INTEGRATION_FAILURE" ∷ codes "INTEGRATION_TIMEOUT"
    ∷ codes "INVALID_API_KEY" ∷ codes "MISSING_AUTHENTICATION_TOKEN" ∷ codes "QUOTA_EXCEEDED" ∷ codes "REQUEST_TOO_LARGE"
    ∷ codes "STORE_FAILURE" ∷ codes "THROTTLED" ∷ codes "UNAUTHORIZED" ∷ codes "UNKNOWN_STAGE" ∷ codes "UNSUPPORTED_MEDIA_TYPE"
    ∷ codes "DEFAULT_4XX" ∷ codes "DEFAULT_5XX" ∷ []

unfoldable pub is_kind : Text → Bool
is_kind name = list_any (λ k. bytes_eq k name) kinds

-- a header with its source
abbrev pub listed : HeadersRead → Text → Origin → HeadersRead
listed hs x origin = record { list = hs.list ++ (x, origin) ∷ []; waiting = hs.waiting }

-- one of another form waits to be refused
abbrev pub refused : HeadersRead → Text → HeadersRead
refused hs x = record { list = hs.list; waiting = first_of hs.waiting (Some (fault_below x (here BadMapping))) }

abbrev pub with_header : HeadersRead → Text → Option (ParameterPlace × Text) → Option Origin → HeadersRead
with_header hs x (Some spot) (Some origin) = listed hs x origin
with_header hs x (Some spot) None = refused hs x
with_header hs x None o = refused hs x

abbrev pub headers_member : HeadersRead → Text → Tree → Read HeadersRead
headers_member hs x t = text_in x t >>= λ s. Ok (with_header hs x (gateway_target x) (plain_source s))

abbrev pub headers_in : Text → Tree → Read HeadersRead
headers_in name t = object_in name t >>= each headers_member record { list = []; waiting = None }

abbrev pub gateway_member : GatewayRead → Text → Tree → Read GatewayRead
gateway_member g x t =
    if bytes_eq x (codes "status") then (number_in 400 599 x t >>= λ n. Ok (record g { status = Some n }))
    else if bytes_eq x (codes "headers") then (headers_in x t >>= λ hs. Ok (record g { headers = hs.list; waiting = first_of g.waiting (waiting_below x hs.waiting) }))
    else if bytes_eq x (codes "template") then (small_template_in x t >>= λ s. Ok (record g { template = Some s }))
    else unknown x

abbrev pub no_gateway : GatewayRead
no_gateway = record { status = None; headers = []; template = None; waiting = None }

abbrev pub gateway_in : Text → Tree → Read GatewayRead
gateway_in name t = object_in name t >>= each gateway_member no_gateway

abbrev pub rule_of : GatewayRead → GatewayRule
rule_of g = record { status = g.status; headers = g.headers; template = g.template }

abbrev pub with_gateway : GatewaysRead → Text → GatewayRead → GatewaysRead
with_gateway all x g = record { list = all.list ++ (x, rule_of g) ∷ []; waiting = first_of all.waiting (waiting_below x g.waiting) }

-- the rules by their kinds
abbrev pub gateways_member : GatewaysRead → Text → Tree → Read GatewaysRead
gateways_member all x t = if is_kind x then (gateway_in x t >>= λ g. Ok (with_gateway all x g)) else unknown x

abbrev pub gateways_in : Text → Tree → Read GatewaysRead
gateways_in name t = object_in name t >>= each gateways_member record { list = []; waiting = None }
