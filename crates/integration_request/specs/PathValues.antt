-- The values of a uri's placeholders.
use Rattle.std.specs.Prelude.{ℕ, Bool, false, List, ◌++◌, map, Option, Some, None, if◌then◌else◌}
use Rattle.std.specs.List.{filter_map, list_any}
use Rattle.std.specs.Str.{bytes_eq}
use Rattle.api_parts.specs.declared.parts.Mapping.{Mapping}
use Rattle.api_parts.specs.declared.parts.Origin.{Origin}
use Rattle.api_parts.specs.declared.parts.Origin.TheVariants as origins
use Rattle.api_parts.specs.declared.parts.ParameterPlace.{ParameterPlace}
use Rattle.api_parts.specs.declared.parts.ParameterPlace.TheVariants as places
use Rattle.call_facts.specs.Pairs.{Pairs}
use Rattle.resource_tree.specs.Reading.{parts_of}
use Rattle.resource_tree.specs.declared.part.Part.{Part}
use Rattle.resource_tree.specs.declared.part.Part.TheVariants.{Literal, Parameter, Greedy}
use Rattle.wire_text.specs.declared.places.PathValue.{PathValue}

-- the part is `{name+}`
abbrev pub is_greedy_part : List ℕ → Part → Bool
is_greedy_part name (Literal text) = false
is_greedy_part name (Parameter other) = false
is_greedy_part name (Greedy other) = bytes_eq other name

abbrev pub any_greedy : List ℕ → Option (List Part) → Bool
any_greedy name None = false
any_greedy name (Some parts) = list_any (is_greedy_part name) parts

-- the resource of this path has a part `{name+}`
abbrev pub has_greedy : List ℕ → List ℕ → Bool
has_greedy resource name = any_greedy name (parts_of resource)

abbrev pub is_greedy_at : List ℕ → ParameterPlace → List ℕ → Bool
is_greedy_at resource places.Path x = has_greedy resource x
is_greedy_at resource places.Query x = false
is_greedy_at resource places.Header x = false

-- a source is the parameter of the path that the resource has as `{N+}`
abbrev pub is_greedy : List ℕ → Origin → Bool
is_greedy resource (origins.Parameter place x) = is_greedy_at resource place x
is_greedy resource (origins.Static t) = false
is_greedy resource (origins.Body path) = false
is_greedy resource (origins.ReplyHeader x) = false
is_greedy resource (origins.Context x) = false
is_greedy resource (origins.StageVariable x) = false

-- a value that is mapped onto a placeholder, where its source has one
abbrev pub path_value : List ℕ → Mapping → Option (List ℕ) → Option PathValue
path_value resource m None = None
path_value resource m (Some v) = Some (record { name = m.name; value = v; greedy = is_greedy resource m.origin })

-- a value that a template writes over is never greedy
abbrev pub plain : List ℕ × List ℕ → PathValue
plain over = record { name = over.0; value = over.1; greedy = false }

-- what a template writes over stands before what is mapped: of each name the first counts
abbrev pub over_mapped : Pairs → List PathValue → List PathValue
over_mapped overs mapped = map plain overs ++ mapped
