-- What the methods of a definition take from the paths of their resources, and where they go.
use Rattle.std.specs.Prelude.{◌≡◌, ℕ, List, map, Some, IsSome, slice_get}
use Rattle.std.specs.List.{All}
use Rattle.resource_tree.specs.Matching.{IsBest, params, path_at}
use Rattle.resource_tree.specs.Parameters.{value_at}
use Rattle.resource_tree.specs.declared.part.Part.{Part}
use Rattle.api_parts.specs.Reading.{Text}
use Rattle.api_parts.specs.declared.parts.Method.{Method}
use Rattle.api_parts.specs.declared.parts.Origin.TheVariants as origin
use Rattle.api_parts.specs.declared.parts.Mapping.{Mapping}
use Rattle.api_parts.specs.declared.parts.Parameter.{Parameter}
use Rattle.api_parts.specs.declared.parts.ParameterPlace.TheVariants.{Path}
use Rattle.api_parts.specs.declared.parts.Resource.{Resource}
use Rattle.api_resources.specs.Paths.{IsTree}
use Rattle.api_resources.specs.Resources.{path_of}
use Rattle.api_resources.specs.Taken.{KeepsToPath, ReadsUri}
use Rattle.api_model.specs.Definition.{Definition, parts_of}

-- a verb of a resource has the number of a method, which takes from the resource's path what that has
pub record LeadsToKept (path : Text) (methods : List Method) (number : ℕ) : Type 0 where
  pub method : Method
  pub at : slice_get methods number ≡ Some method
  pub kept : KeepsToPath path method

-- so it is in every definition
abbrev pub AlwaysKeepToPaths : Type 0
AlwaysKeepToPaths = (d : Definition) → All (λ r. All (λ v. LeadsToKept r.path (parts_of d).methods v.1) r.verbs) (parts_of d).resources

-- A request for this resource is found, of this tree, with these segments.
pub record IsHit (d : Definition) (tree : List (List Part)) (segments : List Text) (resource : ℕ) (r : Resource) : Type 0 where
  pub tree_is : IsTree (map path_of (parts_of d).resources) tree
  pub best : IsBest tree segments resource
  pub at : slice_get (parts_of d).resources resource ≡ Some r

-- the parameters of the path that a method names have values, and so have those that its integration maps from
pub record HasValues (m : Method) (found : List (Text × Text)) : Type 0 where
  pub parameters : All (λ (p : Parameter). p.place ≡ Path → IsSome (value_at found p.name)) m.parameters
  pub mappings : All (λ (x : Mapping). (name : Text) → x.origin ≡ origin.Parameter Path name → IsSome (value_at found name)) m.integration.parameters

pub record LeadsToValues (methods : List Method) (found : List (Text × Text)) (number : ℕ) : Type 0 where
  pub method : Method
  pub at : slice_get methods number ≡ Some method
  pub values : HasValues method found

abbrev pub AlwaysHaveValues : Type 0
AlwaysHaveValues = (d : Definition) (tree : List (List Part)) (segments : List Text) (resource : ℕ) (r : Resource) → IsHit d tree segments resource r
    → All (λ v. LeadsToValues (parts_of d).methods (params (path_at tree resource) segments) v.1) r.verbs

-- each integration of a kind with a backend has the pieces of its `uri`
abbrev pub AlwaysReadUris : Type 0
AlwaysReadUris = (d : Definition) → All (λ m. ReadsUri m.integration) (parts_of d).methods
