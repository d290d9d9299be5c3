-- Where a request goes: the resource of its path, and the method there.
use Rattle.std.specs.Prelude.{ℕ, ◌<◌, List, [], length, map, slice_get, Option, Some, None, ⊤, if◌then◌else◌}
use Rattle.std.specs.Option.{option_and_then, unwrap_or}
use Rattle.resource_tree.specs.Matching.{params, path_at}
use Rattle.resource_tree.specs.Reading.{parts_of as parts_of_path}
use Rattle.resource_tree.specs.declared.found.Found.{Found}
use Rattle.resource_tree.specs.declared.part.Part.{Part}
use Rattle.call_facts.specs.declared.request.Request.{Request}
use Rattle.call_facts.specs.declared.target.Target.{Target}
use Rattle.api_model.specs.Definition.{Definition, parts_of}
use Rattle.api_model.specs.Getters.{entry_of}
use Rattle.api_parts.specs.declared.parts.Resource.{Resource}
use Rattle.method_checks.specs.Best.{best}
use Rattle.method_checks.specs.Segments.{segments_of}
use Rattle.method_checks.specs.declared.routes.Route.{Route}
use Rattle.method_checks.specs.declared.routes.Route.TheVariants.{TextApi, Hit, Missing}

-- the parts of each resource's path
unfoldable pub paths_of : Definition → List (List Part)
paths_of d = map (λ (r : Resource). unwrap_or (parts_of_path r.path) []) (parts_of d).resources

-- the method of a resource for a verb: the verb's own, else that of `ANY`
abbrev pub method_at : Definition → ℕ → List ℕ → Option ℕ
method_at d resource verb = option_and_then (λ (r : Resource). entry_of r.verbs verb) (slice_get (parts_of d).resources resource)

-- a resource, with the parameters that its path takes from the segments
abbrev pub found_at : Definition → List (List ℕ) → ℕ → Found
found_at d segments resource = record { resource = resource; params = params (path_at (paths_of d) resource) segments }

abbrev pub with_method : Found → Option ℕ → Route
with_method found None = Missing
with_method found (Some method) = Hit found method

abbrev pub with_resource : Definition → List ℕ → List (List ℕ) → Option ℕ → Route
with_resource d verb segments None = Missing
with_resource d verb segments (Some resource) = with_method (found_at d segments resource) (method_at d resource verb)

-- the best resource of these segments, and its method for this verb
unfoldable pub route_by : Definition → List ℕ → List (List ℕ) → Route
route_by d verb segments = with_resource d verb segments (best (paths_of d) segments)

-- where a request goes: the resource is chosen before the method is looked up
unfoldable pub route_of : Definition → Request → Target → Route
route_of d request target = if d.is_text then TextApi else route_by d request.method (segments_of target.path)

-- what is hit is a resource and a method of the definition
abbrev pub IsWithin : Definition → Route → Type 0
IsWithin d TextApi = ⊤
IsWithin d (Hit found method) = (found.resource < length (parts_of d).resources) × (method < length (parts_of d).methods)
IsWithin d Missing = ⊤
