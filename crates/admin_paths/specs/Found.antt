-- When a path of the table is found.
use Rattle.std.specs.Prelude.{◌≡◌, ◌↔◌, ℕ, true, List, [], ◌∷◌, codes, Some, ⊤}
use Rattle.admin_paths.specs.Paths.{is_parameter, path_in}
use Rattle.admin_paths.specs.declared.paths.AdminPath.{AdminPath}
use Rattle.admin_paths.specs.declared.paths.AdminPath.TheVariants.{Document, Template, Deployments, Stage, Canary, Promote, Flush, Key, Plan, PlanKey, Grant, Usage, Shutdown}

-- the literals of a path in their places, and its parameters
abbrev pub segments_of : AdminPath → List (List ℕ)
segments_of (Document api) = codes "apis" ∷ api ∷ []
segments_of (Template api) = codes "apis" ∷ api ∷ codes "text" ∷ []
segments_of (Deployments api) = codes "apis" ∷ api ∷ codes "deployments" ∷ []
segments_of (Stage api stage) = codes "apis" ∷ api ∷ codes "stages" ∷ stage ∷ []
segments_of (Canary api stage) = codes "apis" ∷ api ∷ codes "stages" ∷ stage ∷ codes "canary" ∷ []
segments_of (Promote api stage) = codes "apis" ∷ api ∷ codes "stages" ∷ stage ∷ codes "promote" ∷ []
segments_of (Flush api stage) = codes "apis" ∷ api ∷ codes "stages" ∷ stage ∷ codes "flush" ∷ []
segments_of (Key key) = codes "keys" ∷ key ∷ []
segments_of (Plan plan) = codes "plans" ∷ plan ∷ []
segments_of (PlanKey plan key) = codes "plans" ∷ plan ∷ codes "keys" ∷ key ∷ []
segments_of (Grant plan key) = codes "plans" ∷ plan ∷ codes "keys" ∷ key ∷ codes "grant" ∷ []
segments_of (Usage plan key) = codes "plans" ∷ plan ∷ codes "keys" ∷ key ∷ codes "usage" ∷ []
segments_of Shutdown = codes "shutdown" ∷ []

abbrev pub IsParameter : List ℕ → Type 0
IsParameter segment = is_parameter segment ≡ true

abbrev pub HasParameters : AdminPath → Type 0
HasParameters (Document api) = IsParameter api
HasParameters (Template api) = IsParameter api
HasParameters (Deployments api) = IsParameter api
HasParameters (Stage api stage) = IsParameter api × IsParameter stage
HasParameters (Canary api stage) = IsParameter api × IsParameter stage
HasParameters (Promote api stage) = IsParameter api × IsParameter stage
HasParameters (Flush api stage) = IsParameter api × IsParameter stage
HasParameters (Key key) = IsParameter key
HasParameters (Plan plan) = IsParameter plan
HasParameters (PlanKey plan key) = IsParameter plan × IsParameter key
HasParameters (Grant plan key) = IsParameter plan × IsParameter key
HasParameters (Usage plan key) = IsParameter plan × IsParameter key
HasParameters Shutdown = ⊤

-- A path is found exactly where its literals are in their places, with one segment that has a byte for each parameter.
abbrev pub PathsAreFound : Type 0
PathsAreFound = (segments : List (List ℕ)) (path : AdminPath) → (path_in segments ≡ Some path) ↔ ((segments ≡ segments_of path) × HasParameters path)
