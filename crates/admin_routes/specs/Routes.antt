-- The routes of the administration.
use Rattle.std.specs.Prelude.{◌≡◌, ◌↔◌, ℕ, ◌==◌, Bool, List, [], ◌∷◌, ◌++◌, codes, Option, Some, None, if◌then◌else◌, ⊤}
use Rattle.std.specs.List.{list_all, slice_split}
use Rattle.std.specs.Option.{option_and_then}
use Rattle.std.specs.Str.{bytes_eq}
use Rattle.admin_paths.specs.Paths.{path_in}
use Rattle.admin_paths.specs.declared.paths.AdminPath.{AdminPath}
use Rattle.admin_paths.specs.declared.paths.AdminPath.TheVariants as path
use Rattle.call_facts.specs.declared.target.Target.{Target}
use Rattle.record_fields.specs.Coding.{is_utf8, text_of}
use Rattle.admin_routes.specs.declared.routes.Route.{Route}
use Rattle.admin_routes.specs.declared.routes.Route.TheVariants.{PutDocument, PutTemplate, Deploy, PutStage, PutCanary, Promote, Flush, PutKey, PutPlan, JoinKey, Grant, Usage, Shutdown}

-- the first segment of the path is `_admin`, as it is written
unfoldable pub is_admin : Target → Bool
is_admin target = bytes_eq target.api (codes "_admin")

-- the segments behind a slash
abbrev pub segments_behind : List ℕ → List (List ℕ)
segments_behind [] = []
segments_behind (slash ∷ rest) = slice_split (λ b. b == 47) rest

-- the segments of the path behind `/_admin/`, as they are written
abbrev pub segments_of : Target → List (List ℕ)
segments_of target = target.stage ∷ segments_behind target.path

-- a parameter is a segment that has a byte; a target is text, so each of its segments is
abbrev pub parameter : List ℕ → Option (List ℕ)
parameter [] = None
parameter (b ∷ bs) = text_of (b ∷ bs)

-- the path behind `/_admin/`, as one text
abbrev pub behind_slash : List ℕ → List ℕ → List ℕ
behind_slash stage [] = stage
behind_slash stage (slash ∷ rest) = stage ++ 47 ∷ rest

abbrev pub path_behind_admin : Target → List ℕ
path_behind_admin target = behind_slash target.stage target.path

-- the table of routes: the verb of each, its literals in their places, and its parameters
abbrev pub verb_of : Route → List ℕ
verb_of (PutDocument api) = codes "PUT"
verb_of (PutTemplate api) = codes "PUT"
verb_of (Deploy api) = codes "POST"
verb_of (PutStage api stage) = codes "PUT"
verb_of (PutCanary api stage) = codes "PUT"
verb_of (Promote api stage) = codes "POST"
verb_of (Flush api stage) = codes "POST"
verb_of (PutKey key) = codes "PUT"
verb_of (PutPlan plan) = codes "PUT"
verb_of (JoinKey plan key) = codes "PUT"
verb_of (Grant plan key) = codes "POST"
verb_of (Usage plan key) = codes "GET"
verb_of Shutdown = codes "POST"

-- the route at a path of the table
abbrev pub route_of : AdminPath → Route
route_of (path.Document api) = PutDocument api
route_of (path.Template api) = PutTemplate api
route_of (path.Deployments api) = Deploy api
route_of (path.Stage api stage) = PutStage api stage
route_of (path.Canary api stage) = PutCanary api stage
route_of (path.Promote api stage) = Promote api stage
route_of (path.Flush api stage) = Flush api stage
route_of (path.Key key) = PutKey key
route_of (path.Plan plan) = PutPlan plan
route_of (path.PlanKey plan key) = JoinKey plan key
route_of (path.Grant plan key) = Grant plan key
route_of (path.Usage plan key) = Usage plan key
route_of path.Shutdown = Shutdown

abbrev pub route_at_path : List ℕ → AdminPath → Option Route
route_at_path verb found = if bytes_eq verb (verb_of (route_of found)) then Some (route_of found) else None

-- the route of a verb and of the segments behind `_admin`: that of the path that these are, where they are text and the verb is its own
unfoldable pub route_in : List ℕ → List (List ℕ) → Option Route
route_in verb segments = if list_all is_utf8 segments then option_and_then (route_at_path verb) (path_in segments) else None

abbrev pub path_of : Route → List (List ℕ)
path_of (PutDocument api) = codes "apis" ∷ api ∷ []
path_of (PutTemplate api) = codes "apis" ∷ api ∷ codes "text" ∷ []
path_of (Deploy api) = codes "apis" ∷ api ∷ codes "deployments" ∷ []
path_of (PutStage api stage) = codes "apis" ∷ api ∷ codes "stages" ∷ stage ∷ []
path_of (PutCanary api stage) = codes "apis" ∷ api ∷ codes "stages" ∷ stage ∷ codes "canary" ∷ []
path_of (Promote api stage) = codes "apis" ∷ api ∷ codes "stages" ∷ stage ∷ codes "promote" ∷ []
path_of (Flush api stage) = codes "apis" ∷ api ∷ codes "stages" ∷ stage ∷ codes "flush" ∷ []
path_of (PutKey key) = codes "keys" ∷ key ∷ []
path_of (PutPlan plan) = codes "plans" ∷ plan ∷ []
path_of (JoinKey plan key) = codes "plans" ∷ plan ∷ codes "keys" ∷ key ∷ []
path_of (Grant plan key) = codes "plans" ∷ plan ∷ codes "keys" ∷ key ∷ codes "grant" ∷ []
path_of (Usage plan key) = codes "plans" ∷ plan ∷ codes "keys" ∷ key ∷ codes "usage" ∷ []
path_of Shutdown = codes "shutdown" ∷ []

abbrev pub IsParameter : List ℕ → Type 0
IsParameter segment = parameter segment ≡ Some segment

abbrev pub HasParameters : Route → Type 0
HasParameters (PutDocument api) = IsParameter api
HasParameters (PutTemplate api) = IsParameter api
HasParameters (Deploy api) = IsParameter api
HasParameters (PutStage api stage) = IsParameter api × IsParameter stage
HasParameters (PutCanary api stage) = IsParameter api × IsParameter stage
HasParameters (Promote api stage) = IsParameter api × IsParameter stage
HasParameters (Flush api stage) = IsParameter api × IsParameter stage
HasParameters (PutKey key) = IsParameter key
HasParameters (PutPlan plan) = IsParameter plan
HasParameters (JoinKey plan key) = IsParameter plan × IsParameter key
HasParameters (Grant plan key) = IsParameter plan × IsParameter key
HasParameters (Usage plan key) = IsParameter plan × IsParameter key
HasParameters Shutdown = ⊤

-- A route is found exactly where the verb is its own and the path has its literals in their places and one segment with a byte for
-- each parameter.
abbrev pub RoutesAreFound : Type 0
RoutesAreFound =
    (verb : List ℕ) (segments : List (List ℕ)) (route : Route)
    → (route_in verb segments ≡ Some route) ↔ ((verb ≡ verb_of route) × (segments ≡ path_of route) × HasParameters route)
