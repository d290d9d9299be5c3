-- Which of the parameters that a method requires a request lacks.
use Rattle.std.specs.Prelude.{ℕ, Bool, true, ◌&&◌, List, map, Option, Some, None}
use Rattle.std.specs.List.{filter, list_all}
use Rattle.resource_tree.specs.declared.found.Found.{Found}
use Rattle.call_facts.specs.Pairs.{first_value, header_value}
use Rattle.call_facts.specs.declared.request.Request.{Request}
use Rattle.call_facts.specs.declared.target.Target.{Target}
use Rattle.api_parts.specs.declared.parts.Parameter.{Parameter}
use Rattle.api_parts.specs.declared.parts.ParameterPlace.{ParameterPlace}
use Rattle.api_parts.specs.declared.parts.ParameterPlace.TheVariants.{Path, Query, Header}
use Rattle.media_types.specs.Blanks.{is_blank}

-- the value of this name in this place: of a path its parameter, of a query its first pair, of the header fields the first, without regard to case
abbrev pub value_in : Request → Target → Found → List ℕ → ParameterPlace → Option (List ℕ)
value_in request target found name Path = first_value found.params name
value_in request target found name Query = first_value target.query name
value_in request target found name Header = header_value request.headers name

-- a value that is not there, or has nothing but spaces and tabs
abbrev pub is_lacking : Option (List ℕ) → Bool
is_lacking None = true
is_lacking (Some value) = list_all is_blank value

-- the parameter is required, and its value is lacking
abbrev pub is_missing : Request → Target → Found → Parameter → Bool
is_missing request target found p = p.required && is_lacking (value_in request target found p.name p.place)

-- the names of all that are missing, in the order of the definition
abbrev pub missing_names : Request → Target → Found → List Parameter → List (List ℕ)
missing_names request target found ps = map (λ (p : Parameter). p.name) (filter (is_missing request target found) ps)
