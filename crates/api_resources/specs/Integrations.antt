-- An integration. Which members it may have goes by its `type`, which is looked up first.
use Rattle.std.specs.Prelude.{Bool, true, false, not, ◌||◌, List, [], ◌∷◌, ◌++◌, codes, bytes_eq, if◌then◌else◌, Option, Some, None, is_some, Ok, Err}
use Rattle.std.specs.List.{list_all, list_any}
use Rattle.json_subset.specs.Tree.{Tree}
use Rattle.json_subset.specs.Documents.{decoded, form, member_named}
use Rattle.api_parts.specs.Reading.{Text, Read, ◌>>=◌, bad, each, here, needed, unknown, Waiting, first_of, waiting_below}
use Rattle.api_parts.specs.Places.{fault_below}
use Rattle.api_parts.specs.declared.fault.ApiCause.TheVariants.{BadMapping, BadUri, Missing}
use Rattle.api_parts.specs.declared.parts.Integration.{Integration}
use Rattle.api_parts.specs.declared.parts.IntegrationKind.{IntegrationKind}
use Rattle.api_parts.specs.declared.parts.IntegrationKind.TheVariants.{Mock, Http, HttpProxy}
use Rattle.api_parts.specs.declared.parts.Passthrough.{Passthrough}
use Rattle.api_parts.specs.declared.parts.Passthrough.TheVariants.{WhenNoMatch, WhenNoTemplates, Never}
use Rattle.api_mappings.specs.Uris.{uri_of}
use Rattle.api_parts.specs.declared.uri.Uri.{Uri}
use Rattle.api_parts.specs.declared.uri.Piece.{Piece}
use Rattle.api_parts.specs.declared.uri.Piece.TheVariants.{Literal, Variable, Placeholder}
use Rattle.api_reading.specs.Texts.{templates_in}
use Rattle.api_reading.specs.Values.{number_in, object_in, text_in}
use Rattle.api_resources.specs.declared.integrations.IntegrationRead.{IntegrationRead}
use Rattle.api_resources.specs.declared.mapped.Side.TheVariants.{Request}
use Rattle.api_resources.specs.Mapped.{mappings_in}
use Rattle.api_resources.specs.Rules.{rules_in}

abbrev pub kind_named : Option Text → Option IntegrationKind
kind_named None = None
kind_named (Some x) =
    if bytes_eq x (codes "MOCK") then Some Mock
    else if bytes_eq x (codes "HTTP") then Some Http
    else if bytes_eq x (codes "HTTP_PROXY") then Some HttpProxy
    else None

abbrev pub text_of : Option Tree → Option Text
text_of None = None
text_of (Some t) = decoded (form t)

-- what its `type` names
abbrev pub kind_of : Tree → Option IntegrationKind
kind_of t = kind_named (text_of (member_named (form t) (codes "type")))

abbrev pub is_one_of : List Text → Text → Bool
is_one_of names x = list_any (λ n. bytes_eq n x) names

-- MOCK has no backend, HTTP_PROXY no templates; where the type is not known, all members may stand
unfoldable pub may_have : Option IntegrationKind → Text → Bool
may_have None x = true
may_have (Some Mock) x = not (is_one_of (codes "method" ∷ codes "uri" ∷ codes "parameters" ∷ []) x)
may_have (Some Http) x = true
may_have (Some HttpProxy) x = not (is_one_of (codes "templates" ∷ codes "passthrough" ∷ codes "responses" ∷ []) x)

-- the verbs
unfoldable pub is_verb : Text → Bool
is_verb x = is_one_of (codes "GET" ∷ codes "HEAD" ∷ codes "POST" ∷ codes "PUT" ∷ codes "PATCH" ∷ codes "DELETE" ∷ codes "OPTIONS" ∷ []) x

abbrev pub if_verb : Text → Text → Read Text
if_verb name x = if is_verb x then Ok x else bad name

abbrev pub verb_in : Text → Tree → Read Text
verb_in name t = text_in name t >>= if_verb name

abbrev pub passthrough_named : Text → Text → Read Passthrough
passthrough_named name x =
    if bytes_eq x (codes "WHEN_NO_MATCH") then Ok WhenNoMatch
    else if bytes_eq x (codes "WHEN_NO_TEMPLATES") then Ok WhenNoTemplates
    else if bytes_eq x (codes "NEVER") then Ok Never
    else bad name

abbrev pub passthrough_in : Text → Tree → Read Passthrough
passthrough_in name t = text_in name t >>= passthrough_named name

-- a value is mapped onto this name of the path, by the integration's `parameters`
abbrev pub is_mapped : Option Tree → Text → Bool
is_mapped None name = false
is_mapped (Some ps) name = is_some (member_named (form ps) (codes "integration.request.path." ++ name))

abbrev pub has_mapping : Option Tree → Piece → Bool
has_mapping ps (Literal t) = true
has_mapping ps (Variable n) = true
has_mapping ps (Placeholder n) = is_mapped ps n

-- a placeholder without its mapping waits to be refused
abbrev pub uri_waiting : Option Tree → Text → List Piece → Waiting
uri_waiting ps x path = if list_all (has_mapping ps) path then None else Some (fault_below x (here BadMapping))

abbrev pub with_uri : Option Tree → IntegrationRead → Text → Text → Option Uri → Read IntegrationRead
with_uri ps i x u None = Err (here BadUri)
with_uri ps i x u (Some backend) = Ok (record i { uri = Some (u, backend); waiting = first_of i.waiting (uri_waiting ps x backend.path) })

-- mappings, templates, rules and the timeout, with what waits in them
unfoldable pub mappings_row : Text → IntegrationRead → Text → Tree → Read IntegrationRead
mappings_row path i x t = mappings_in Request path x t >>= λ ms. Ok (record i { parameters = ms.list; waiting = first_of i.waiting (waiting_below x ms.waiting) })

unfoldable pub templates_row : IntegrationRead → Text → Tree → Read IntegrationRead
templates_row i x t = templates_in x t >>= λ ts. Ok (record i { templates = ts })

unfoldable pub rules_row : IntegrationRead → Text → Tree → Read IntegrationRead
rules_row i x t = rules_in x t >>= λ rs. Ok (record i { responses = rs.list; waiting = first_of i.waiting (waiting_below x rs.waiting) })

abbrev pub inner_row : Text → IntegrationRead → Text → Tree → Read IntegrationRead
inner_row path i x t =
    if bytes_eq x (codes "parameters") then mappings_row path i x t
    else if bytes_eq x (codes "templates") then templates_row i x t
    else if bytes_eq x (codes "responses") then rules_row i x t
    else if bytes_eq x (codes "timeout") then (number_in 50 29000 x t >>= λ n. Ok (record i { timeout = n }))
    else unknown x

-- a member that may stand; of the type it is known already whether it names one
abbrev pub integration_row : Option IntegrationKind → Option Tree → Text → IntegrationRead → Text → Tree → Read IntegrationRead
integration_row kind ps path i x t =
    if bytes_eq x (codes "type") then (if is_some kind then Ok i else bad x)
    else if bytes_eq x (codes "method") then (verb_in x t >>= λ m. Ok (record i { method = Some m }))
    else if bytes_eq x (codes "uri") then (text_in x t >>= λ u. with_uri ps i x u (uri_of u))
    else if bytes_eq x (codes "passthrough") then (passthrough_in x t >>= λ p. Ok (record i { passthrough = p }))
    else inner_row path i x t

abbrev pub integration_member : Option IntegrationKind → Option Tree → Text → IntegrationRead → Text → Tree → Read IntegrationRead
integration_member kind ps path i x t = if may_have kind x then integration_row kind ps path i x t else unknown x

abbrev pub no_integration : IntegrationRead
no_integration = record { method = None; uri = None; passthrough = WhenNoMatch; parameters = []; templates = []; responses = []; timeout = 29000; waiting = None }

abbrev pub made : IntegrationKind → IntegrationRead → Text → Text → Option Uri → Integration × Waiting
made kind i method uri backend =
    (record { kind = kind; method = method; uri = uri; backend = backend; passthrough = i.passthrough; parameters = i.parameters; templates = i.templates; responses = i.responses; timeout = i.timeout }, i.waiting)

abbrev pub with_backend : IntegrationKind → IntegrationRead → Read (Integration × Waiting)
with_backend kind i = needed (codes "method") i.method >>= λ m. needed (codes "uri") i.uri >>= λ u. Ok (made kind i m u.0 (Some u.1))

abbrev pub integration_of : Option IntegrationKind → IntegrationRead → Read (Integration × Waiting)
integration_of None i = Err (here (Missing (codes "type")))
integration_of (Some Mock) i = Ok (made Mock i [] [] None)
integration_of (Some Http) i = with_backend Http i
integration_of (Some HttpProxy) i = with_backend HttpProxy i

-- the integration of a method of the resource of this path
unfoldable pub integration_in : Text → Text → Tree → Read (Integration × Waiting)
integration_in path name t =
    object_in name t >>= λ ms. each (integration_member (kind_of t) (member_named (form t) (codes "parameters")) path) no_integration ms >>= integration_of (kind_of t)
