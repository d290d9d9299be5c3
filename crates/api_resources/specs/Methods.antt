-- A method: `integration`, and perhaps `apiKeyRequired`, `authorizer`, `validator`, `parameters` and `models`.
use Rattle.std.specs.Prelude.{ℕ, ◌+◌, Bool, false, List, [], ◌∷◌, ◌++◌, codes, bytes_eq, if◌then◌else◌, Option, Some, None, Ok}
use Rattle.json_subset.specs.Tree.{Tree}
use Rattle.json_subset.specs.Documents.{form, member_named}
use Rattle.json_values.specs.Parts.{entries_of}
use Rattle.api_parts.specs.Reading.{Text, Read, ◌>>=◌, each, here, needed, unknown, Waiting, first_of, waiting_below}
use Rattle.api_parts.specs.Places.{fault_below}
use Rattle.api_parts.specs.declared.fault.ApiCause.TheVariants.{BadMapping, NoSuch}
use Rattle.api_parts.specs.declared.parts.Method.{Method}
use Rattle.api_mappings.specs.Mappings.{Spot, parameter_of}
use Rattle.api_reading.specs.Values.{flag_in, object_in, text_in}
use Rattle.api_resources.specs.declared.methods.MethodRead.{MethodRead}
use Rattle.api_resources.specs.declared.methods.ParametersRead.{ParametersRead}
use Rattle.api_resources.specs.declared.methods.NamedRead.{NamedRead}
use Rattle.api_resources.specs.Integrations.{integration_in}

-- the number of the first member of this name, counted from n
abbrev pub number_from : ℕ → List (Text × Tree) → Text → Option ℕ
number_from n [] x = None
number_from n (m ∷ ms) x = if bytes_eq m.0 x then Some n else number_from (n + 1) ms x

abbrev pub members_of : Option Tree → List (Text × Tree)
members_of None = []
members_of (Some t) = entries_of (form t)

-- the number by which something is defined under this name, in this member of the document
unfoldable pub number_among : Tree → Text → Text → Option ℕ
number_among document member x = number_from 0 (members_of (member_named (form document) member)) x

-- a name of what is not defined waits to be refused
abbrev pub no_such : Waiting → Text → Text → Waiting
no_such waiting x name = first_of waiting (Some (fault_below x (here (NoSuch name))))

abbrev pub with_authorizer : MethodRead → Text → Text → Option ℕ → MethodRead
with_authorizer m x name (Some n) = record m { authorizer = Some n }
with_authorizer m x name None = record m { waiting = no_such m.waiting x name }

abbrev pub with_validator : MethodRead → Text → Text → Option ℕ → MethodRead
with_validator m x name (Some n) = record m { validator = Some n }
with_validator m x name None = record m { waiting = no_such m.waiting x name }

-- a parameter more; one of another form waits to be refused
abbrev pub with_parameter : ParametersRead → Text → Bool → Option Spot → ParametersRead
with_parameter ps x required (Some spot) = record { list = ps.list ++ record { place = spot.0; name = spot.1; required = required } ∷ []; waiting = ps.waiting }
with_parameter ps x required None = record { list = ps.list; waiting = first_of ps.waiting (Some (fault_below x (here BadMapping))) }

abbrev pub parameters_member : Text → ParametersRead → Text → Tree → Read ParametersRead
parameters_member path ps x t = flag_in x t >>= λ required. Ok (with_parameter ps x required (parameter_of path x))

abbrev pub parameters_in : Text → Text → Tree → Read ParametersRead
parameters_in path name t = object_in name t >>= each (parameters_member path) record { list = []; waiting = None }

-- a media type with the number of its model
abbrev pub with_model : NamedRead → Text → Text → Option ℕ → NamedRead
with_model ms x name (Some n) = record { list = ms.list ++ (x, n) ∷ []; waiting = ms.waiting }
with_model ms x name None = record { list = ms.list; waiting = no_such ms.waiting x name }

abbrev pub named_models_member : Tree → NamedRead → Text → Tree → Read NamedRead
named_models_member document ms x t = text_in x t >>= λ name. Ok (with_model ms x name (number_among document (codes "models") name))

abbrev pub named_models_in : Tree → Text → Tree → Read NamedRead
named_models_in document name t = object_in name t >>= each (named_models_member document) record { list = []; waiting = None }

-- parameters, models and the integration, each with what waits in it
unfoldable pub parameters_member_in : Text → MethodRead → Text → Tree → Read MethodRead
parameters_member_in path m x t = parameters_in path x t >>= λ ps. Ok (record m { parameters = ps.list; waiting = first_of m.waiting (waiting_below x ps.waiting) })

unfoldable pub models_member_in : Tree → MethodRead → Text → Tree → Read MethodRead
models_member_in document m x t = named_models_in document x t >>= λ ms. Ok (record m { models = ms.list; waiting = first_of m.waiting (waiting_below x ms.waiting) })

unfoldable pub integration_member_in : Text → MethodRead → Text → Tree → Read MethodRead
integration_member_in path m x t = integration_in path x t >>= λ i. Ok (record m { integration = Some i.0; waiting = first_of m.waiting (waiting_below x i.1) })

abbrev pub inner_member : Tree → Text → MethodRead → Text → Tree → Read MethodRead
inner_member document path m x t =
    if bytes_eq x (codes "parameters") then parameters_member_in path m x t
    else if bytes_eq x (codes "models") then models_member_in document m x t
    else if bytes_eq x (codes "integration") then integration_member_in path m x t
    else unknown x

abbrev pub method_member : Tree → Text → MethodRead → Text → Tree → Read MethodRead
method_member document path m x t =
    if bytes_eq x (codes "apiKeyRequired") then (flag_in x t >>= λ b. Ok (record m { api_key_required = b }))
    else if bytes_eq x (codes "authorizer") then (text_in x t >>= λ name. Ok (with_authorizer m x name (number_among document (codes "authorizers") name)))
    else if bytes_eq x (codes "validator") then (text_in x t >>= λ name. Ok (with_validator m x name (number_among document (codes "validators") name)))
    else inner_member document path m x t

abbrev pub no_method : MethodRead
no_method = record { api_key_required = false; authorizer = None; validator = None; parameters = []; models = []; integration = None; waiting = None }

abbrev pub method_of : Text → MethodRead → Read (Method × Waiting)
method_of verb m =
    needed (codes "integration") m.integration >>= λ i.
    Ok (record { verb = verb; api_key_required = m.api_key_required; authorizer = m.authorizer; validator = m.validator; parameters = m.parameters; models = m.models; integration = i }, m.waiting)

-- the method of this verb, of the resource of this path in the document
abbrev pub method_in : Tree → Text → Text → Tree → Read (Method × Waiting)
method_in document path verb t = object_in verb t >>= λ ms. each (method_member document path) no_method ms >>= method_of verb
