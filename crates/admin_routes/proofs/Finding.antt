-- A route is found by its verb and path.
use Rattle.std.proofs.Common.{◌≡◌, ℕ, ◌<◌, Bool, true, false, cond, ◌&&◌, ltb, ltb-true, List, [], ◌∷◌, codes, bytes_eq, Option, Some, None, All, IsUtf8, ap, sym, ◌∙◌, subst, refl}
use Rattle.std.specs.List.{list_all}
use Rattle.std.specs.Option.{option_and_then}
use Rattle.std.proofs.lemmas.Bool.{and_parts}
use Rattle.std.proofs.lemmas.List.Elements.{All-nil, All-cons}
use Rattle.std.proofs.lemmas.Slice.Eq.{bytes_eq-Decides}
use Rattle.std.proofs.lemmas.Str.Ascii.{IsAscii-from_all}
use Rattle.std.proofs.lemmas.Str.{IsUtf8-from_ascii}
use Rattle.record_fields.specs.Coding.{is_utf8}
use Rattle.record_fields.proofs.Utf8.{told_utf8}
use Rattle.admin_paths.specs.Found.{HasParameters as PathHasParameters, segments_of as path_segments}
use Rattle.admin_paths.specs.Paths.{is_parameter, path_in}
use Rattle.admin_paths.specs.declared.paths.AdminPath.{AdminPath}
use Rattle.admin_paths.specs.declared.paths.AdminPath.TheVariants as path
use Rattle.admin_paths.proofs.Found.{paths_are_found}
use Rattle.admin_routes.specs.Routes.{HasParameters, IsParameter, RoutesAreFound, parameter, path_of, route_at_path, route_in, route_of, verb_of}
use Rattle.admin_routes.specs.declared.routes.Route.{Route}
use Rattle.admin_routes.specs.declared.routes.Route.TheVariants.{PutDocument, PutTemplate, Deploy, PutStage, PutCanary, Promote, Flush, PutKey, PutPlan, JoinKey, Grant, Usage, Shutdown}

abbrev Fits : List ℕ → List (List ℕ) → Route → Type 0
Fits verb segments route = (verb ≡ verb_of route) × (segments ≡ path_of route) × HasParameters route

sure : {X : Type 0} (b : Bool) (x : Option X) (y : X) → cond b x None ≡ Some y → (b ≡ true) × (x ≡ Some y)
sure true x y e = (refl, e)
sure false x y e = absurd cc

some_same : {X : Type 0} {x y : X} → Some x ≡ Some y → x ≡ y
some_same e = cc

chained : {X Y : Type 0} (f : X → Option Y) (o : Option X) (y : Y) → option_and_then f o ≡ Some y → (x : X) × (o ≡ Some x) × (f x ≡ Some y)
chained f None y e = absurd cc
chained f (Some x) y e = (x, refl, e)

-- texts of which all are text
abbrev AllText : List (List ℕ) → Type 0
AllText [] = Unit {0}
AllText (s ∷ segments) = (is_utf8 s ≡ true) × AllText segments

parts : (segments : List (List ℕ)) → list_all is_utf8 segments ≡ true → AllText segments
parts [] e = tt
parts (s ∷ segments) e = let b = and_parts (is_utf8 s) (list_all is_utf8 segments) e in (b.0, parts segments b.1)

whole : (segments : List (List ℕ)) → AllText segments → list_all is_utf8 segments ≡ true
whole [] h = refl
whole (s ∷ segments) h = ap (λ v. v && list_all is_utf8 segments) h.0 ∙ whole segments h.1

-- a segment of text that has a byte is a parameter, and a parameter is such a segment
is_one : (x : List ℕ) → is_parameter x ≡ true → is_utf8 x ≡ true → IsParameter x
is_one [] e f = absurd cc
is_one (b ∷ bs) e f = ap (λ v. cond v (Some (b ∷ bs)) None) f

has_byte : (x : List ℕ) → IsParameter x → is_parameter x ≡ true
has_byte [] e = absurd cc
has_byte (b ∷ bs) e = refl

is_text : (x : List ℕ) → IsParameter x → is_utf8 x ≡ true
is_text [] e = absurd cc
is_text (b ∷ bs) e = by (is_utf8 (b ∷ bs)) e
  where
    by : (v : Bool) → cond v (Some (b ∷ bs)) None ≡ Some (b ∷ bs) → v ≡ true
    by true e = refl
    by false e = absurd cc

-- the path of a route in the table
abbrev path_at : Route → AdminPath
path_at (PutDocument api) = path.Document api
path_at (PutTemplate api) = path.Template api
path_at (Deploy api) = path.Deployments api
path_at (PutStage api stage) = path.Stage api stage
path_at (PutCanary api stage) = path.Canary api stage
path_at (Promote api stage) = path.Promote api stage
path_at (Flush api stage) = path.Flush api stage
path_at (PutKey key) = path.Key key
path_at (PutPlan plan) = path.Plan plan
path_at (JoinKey plan key) = path.PlanKey plan key
path_at (Grant plan key) = path.Grant plan key
path_at (Usage plan key) = path.Usage plan key
path_at Shutdown = path.Shutdown

same_path : (found : AdminPath) → path_segments found ≡ path_of (route_of found)
same_path (path.Document api) = refl
same_path (path.Template api) = refl
same_path (path.Deployments api) = refl
same_path (path.Stage api stage) = refl
same_path (path.Canary api stage) = refl
same_path (path.Promote api stage) = refl
same_path (path.Flush api stage) = refl
same_path (path.Key key) = refl
same_path (path.Plan plan) = refl
same_path (path.PlanKey plan key) = refl
same_path (path.Grant plan key) = refl
same_path (path.Usage plan key) = refl
same_path path.Shutdown = refl

parameters : (found : AdminPath) → AllText (path_segments found) → PathHasParameters found → HasParameters (route_of found)
parameters (path.Document api) t h = is_one api h t.1.0
parameters (path.Template api) t h = is_one api h t.1.0
parameters (path.Deployments api) t h = is_one api h t.1.0
parameters (path.Stage api stage) t h = (is_one api h.0 t.1.0, is_one stage h.1 t.1.1.1.0)
parameters (path.Canary api stage) t h = (is_one api h.0 t.1.0, is_one stage h.1 t.1.1.1.0)
parameters (path.Promote api stage) t h = (is_one api h.0 t.1.0, is_one stage h.1 t.1.1.1.0)
parameters (path.Flush api stage) t h = (is_one api h.0 t.1.0, is_one stage h.1 t.1.1.1.0)
parameters (path.Key key) t h = is_one key h t.1.0
parameters (path.Plan plan) t h = is_one plan h t.1.0
parameters (path.PlanKey plan key) t h = (is_one plan h.0 t.1.0, is_one key h.1 t.1.1.1.0)
parameters (path.Grant plan key) t h = (is_one plan h.0 t.1.0, is_one key h.1 t.1.1.1.0)
parameters (path.Usage plan key) t h = (is_one plan h.0 t.1.0, is_one key h.1 t.1.1.1.0)
parameters path.Shutdown t h = tt

-- what is found fits
found : (verb : List ℕ) (segments : List (List ℕ)) (route : Route) → route_in verb segments ≡ Some route → Fits verb segments route
unfolding route_in
found verb segments route e =
    let s = sure (list_all is_utf8 segments) (option_and_then (route_at_path verb) (path_in segments)) route e in
    let c = chained (route_at_path verb) (path_in segments) route s.1 in
    let r = sure (bytes_eq verb (verb_of (route_of c.0))) (Some (route_of c.0)) route c.2 in
    let f = (paths_are_found segments c.0).0 c.1 in
    let t = parts (path_segments c.0) (subst (λ x. list_all is_utf8 x ≡ true) f.0 s.0) in
    subst (Fits verb segments) (some_same r.1) ((bytes_eq-Decides verb (verb_of (route_of c.0))).0 r.0, f.0 ∙ same_path c.0, parameters c.0 t f.1)

-- literals are text
abbrev is_small : ℕ → Bool
is_small b = ltb b 128

all_small : (x : List ℕ) → list_all is_small x ≡ true → All (λ b. b < 128) x
all_small [] h = All-nil (λ b. b < 128)
all_small (b ∷ x) h = let both = and_parts (is_small b) (list_all is_small x) h in All-cons (λ y. y < 128) b x (ltb-true b 128 both.0) (all_small x both.1)

pub ascii : (x : List ℕ) → list_all is_small x ≡ true → IsUtf8 x
ascii x h = IsUtf8-from_ascii x (IsAscii-from_all x (all_small x h))

word : (x : List ℕ) → list_all is_small x ≡ true → is_utf8 x ≡ true
word x h = told_utf8 x x refl (ascii x h)

apis : is_utf8 (codes "apis") ≡ true
apis = word (codes "apis") refl

plans : is_utf8 (codes "plans") ≡ true
plans = word (codes "plans") refl

keys : is_utf8 (codes "keys") ≡ true
keys = word (codes "keys") refl

stages : is_utf8 (codes "stages") ≡ true
stages = word (codes "stages") refl

-- the segments of a route are text
texts : (route : Route) → HasParameters route → AllText (path_of route)
texts (PutDocument api) h = (apis, (is_text api h, tt))
texts (PutTemplate api) h = (apis, (is_text api h, (word (codes "text") refl, tt)))
texts (Deploy api) h = (apis, (is_text api h, (word (codes "deployments") refl, tt)))
texts (PutStage api stage) h = (apis, (is_text api h.0, (stages, (is_text stage h.1, tt))))
texts (PutCanary api stage) h = (apis, (is_text api h.0, (stages, (is_text stage h.1, (word (codes "canary") refl, tt)))))
texts (Promote api stage) h = (apis, (is_text api h.0, (stages, (is_text stage h.1, (word (codes "promote") refl, tt)))))
texts (Flush api stage) h = (apis, (is_text api h.0, (stages, (is_text stage h.1, (word (codes "flush") refl, tt)))))
texts (PutKey key) h = (keys, (is_text key h, tt))
texts (PutPlan plan) h = (plans, (is_text plan h, tt))
texts (JoinKey plan key) h = (plans, (is_text plan h.0, (keys, (is_text key h.1, tt))))
texts (Grant plan key) h = (plans, (is_text plan h.0, (keys, (is_text key h.1, (word (codes "grant") refl, tt)))))
texts (Usage plan key) h = (plans, (is_text plan h.0, (keys, (is_text key h.1, (word (codes "usage") refl, tt)))))
texts Shutdown h = (word (codes "shutdown") refl, tt)

-- its path is that of the table
at_path : (route : Route) → HasParameters route
    → (path_of route ≡ path_segments (path_at route)) × PathHasParameters (path_at route)
at_path (PutDocument api) h = (refl, has_byte api h)
at_path (PutTemplate api) h = (refl, has_byte api h)
at_path (Deploy api) h = (refl, has_byte api h)
at_path (PutStage api stage) h = (refl, (has_byte api h.0, has_byte stage h.1))
at_path (PutCanary api stage) h = (refl, (has_byte api h.0, has_byte stage h.1))
at_path (Promote api stage) h = (refl, (has_byte api h.0, has_byte stage h.1))
at_path (Flush api stage) h = (refl, (has_byte api h.0, has_byte stage h.1))
at_path (PutKey key) h = (refl, has_byte key h)
at_path (PutPlan plan) h = (refl, has_byte plan h)
at_path (JoinKey plan key) h = (refl, (has_byte plan h.0, has_byte key h.1))
at_path (Grant plan key) h = (refl, (has_byte plan h.0, has_byte key h.1))
at_path (Usage plan key) h = (refl, (has_byte plan h.0, has_byte key h.1))
at_path Shutdown h = (refl, tt)

own_verb : (route : Route) → route_at_path (verb_of route) (path_at route) ≡ Some route
own_verb (PutDocument api) = refl
own_verb (PutTemplate api) = refl
own_verb (Deploy api) = refl
own_verb (PutStage api stage) = refl
own_verb (PutCanary api stage) = refl
own_verb (Promote api stage) = refl
own_verb (Flush api stage) = refl
own_verb (PutKey key) = refl
own_verb (PutPlan plan) = refl
own_verb (JoinKey plan key) = refl
own_verb (Grant plan key) = refl
own_verb (Usage plan key) = refl
own_verb Shutdown = refl

-- and what fits is found
finds : (route : Route) → HasParameters route → route_in (verb_of route) (path_of route) ≡ Some route
unfolding route_in
finds route h =
    let at = at_path route h in
    let is : path_in (path_of route) ≡ Some (path_at route) = (paths_are_found (path_of route) (path_at route)).1 (at.0, at.1) in
    ap (λ v. cond v (option_and_then (route_at_path (verb_of route)) (path_in (path_of route))) None) (whole (path_of route) (texts route h))
    ∙ ap (option_and_then (route_at_path (verb_of route))) is ∙ own_verb route

pub routes_are_found : RoutesAreFound
routes_are_found verb segments route = (
  found verb segments route,
  λ fits. ap (λ v. route_in v segments) fits.0 ∙ ap (route_in (verb_of route)) fits.1 ∙ finds route fits.2,
)
