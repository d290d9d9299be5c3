-- What holds of routes, and of the parameters that are missing.
use Rattle.std.specs.Prelude.{◌≡◌, ◌⊎◌, ◌↔◌, ℕ, true, false, List, ◌∷◌, ◌++◌, codes, slice_get, Some, None}
use Rattle.resource_tree.specs.Matching.{IsBest, MatchesNone}
use Rattle.resource_tree.specs.Parameters.{value_at}
use Rattle.resource_tree.specs.declared.found.Found.{Found}
use Rattle.resource_tree.specs.declared.part.Part.{Part}
use Rattle.call_facts.specs.declared.request.Request.{Request}
use Rattle.call_facts.specs.declared.target.Target.{Target}
use Rattle.api_model.specs.Definition.{Definition, parts_of}
use Rattle.api_parts.specs.declared.parts.Parameter.{Parameter}
use Rattle.api_parts.specs.declared.parts.Resource.{Resource}
use Rattle.method_checks.specs.Best.{best}
use Rattle.method_checks.specs.Missing.{is_missing, missing_names}
use Rattle.method_checks.specs.Routing.{found_at, paths_of, route_of}
use Rattle.method_checks.specs.Segments.{segments_of}
use Rattle.method_checks.specs.declared.routes.Route.TheVariants.{Hit, Missing}

-- what is found is best, by the paths' own relation; none is found just where no path matches
pub record TellsBest (paths : List (List Part)) (segments : List (List ℕ)) : Type 0 where
  pub found : (at : ℕ) → best paths segments ≡ Some at → IsBest paths segments at
  pub none : (best paths segments ≡ None) ↔ MatchesNone paths segments

abbrev pub AlwaysTellsBest : Type 0
AlwaysTellsBest = (paths : List (List Part)) (segments : List (List ℕ)) → TellsBest paths segments

-- what is hit is the best resource, with the parameters that its path takes from the segments
abbrev pub HitsTheBest : Type 0
HitsTheBest = (d : Definition) (request : Request) (target : Target) (found : Found) (method : ℕ) → route_of d request target ≡ Hit found method
    → IsBest (paths_of d) (segments_of target.path) found.resource × (found ≡ found_at d (segments_of target.path) found.resource)

-- the best resource has no entry for this verb, and none for `ANY`
pub record LacksEntry (d : Definition) (verb : List ℕ) (segments : List (List ℕ)) : Type 0 where
  pub at : ℕ
  pub chosen : best (paths_of d) segments ≡ Some at
  pub resource : Resource
  pub stands : slice_get (parts_of d).resources at ≡ Some resource
  pub own : value_at resource.verbs verb ≡ None
  pub any : value_at resource.verbs (codes "ANY") ≡ None

-- a request goes nowhere just where no path of a resource matches, or the best resource lacks both entries
abbrev pub MissesWithCause : Type 0
MissesWithCause = (d : Definition) (request : Request) (target : Target)
    → (route_of d request target ≡ Missing) ↔ ((d.is_text ≡ false) × (MatchesNone (paths_of d) (segments_of target.path) ⊎ LacksEntry d request.method (segments_of target.path)))

-- where the resource has an entry for the verb, that is the method, whatever it has for `ANY`
abbrev pub PrefersOwnEntry : Type 0
PrefersOwnEntry = (d : Definition) (request : Request) (target : Target) (found : Found) (method own : ℕ) (resource : Resource) → route_of d request target ≡ Hit found method
    → slice_get (parts_of d).resources found.resource ≡ Some resource → value_at resource.verbs request.method ≡ Some own → method ≡ own

-- a parameter that is missing is named once, behind those before it and before those behind it, and another is not named
pub record NamesInTurn (request : Request) (target : Target) (found : Found) (before after : List Parameter) (p : Parameter) : Type 0 where
  pub missing : is_missing request target found p ≡ true → missing_names request target found (before ++ p ∷ after) ≡ missing_names request target found before ++ p.name ∷ missing_names request target found after
  pub given : is_missing request target found p ≡ false → missing_names request target found (before ++ p ∷ after) ≡ missing_names request target found before ++ missing_names request target found after

abbrev pub AlwaysNamesInTurn : Type 0
AlwaysNamesInTurn = (request : Request) (target : Target) (found : Found) (before after : List Parameter) (p : Parameter) → NamesInTurn request target found before after p
