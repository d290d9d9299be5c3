-- The mappings of an integration, and of a response rule: each target with its source.
use Rattle.std.specs.Prelude.{List, [], ◌∷◌, ◌++◌, Option, Some, None, Ok}
use Rattle.json_subset.specs.Tree.{Tree}
use Rattle.api_parts.specs.Reading.{Text, Read, ◌>>=◌, each, here, first_of}
use Rattle.api_parts.specs.Places.{fault_below}
use Rattle.api_parts.specs.declared.fault.ApiCause.TheVariants.{BadMapping}
use Rattle.api_parts.specs.declared.parts.Origin.{Origin}
use Rattle.api_mappings.specs.Mappings.{Spot, request_source, request_target, response_source, response_target}
use Rattle.api_reading.specs.Values.{object_in, text_in}
use Rattle.api_resources.specs.declared.mapped.Side.{Side}
use Rattle.api_resources.specs.declared.mapped.Side.TheVariants.{Request, Response}
use Rattle.api_resources.specs.declared.mapped.MappingsRead.{MappingsRead}

-- where a value is written, in a backend's request or in an answer
abbrev pub target_of : Side → Text → Option Spot
target_of Request x = request_target x
target_of Response x = response_target x

-- where it comes from, of a method of the resource of this path
abbrev pub source_of : Side → Text → Text → Option Origin
source_of Request path s = request_source path s
source_of Response path s = response_source s

-- a mapping more; one of another form waits to be refused
abbrev pub with_mapping : MappingsRead → Text → Option Spot → Option Origin → MappingsRead
with_mapping ms x (Some spot) (Some origin) = record { list = ms.list ++ record { place = spot.0; name = spot.1; origin = origin } ∷ []; waiting = ms.waiting }
with_mapping ms x (Some spot) None = record { list = ms.list; waiting = first_of ms.waiting (Some (fault_below x (here BadMapping))) }
with_mapping ms x None o = record { list = ms.list; waiting = first_of ms.waiting (Some (fault_below x (here BadMapping))) }

abbrev pub mappings_member : Side → Text → MappingsRead → Text → Tree → Read MappingsRead
mappings_member side path ms x t = text_in x t >>= λ s. Ok (with_mapping ms x (target_of side x) (source_of side path s))

abbrev pub mappings_in : Side → Text → Text → Tree → Read MappingsRead
mappings_in side path name t = object_in name t >>= each (mappings_member side path) record { list = []; waiting = None }
