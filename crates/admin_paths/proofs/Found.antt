-- A path is found by its literals.
use Rattle.std.proofs.Common.{◌≡◌, ℕ, Bool, true, false, cond, ◌&&◌, List, [], ◌∷◌, codes, bytes_eq, Option, Some, None, ap, subst, ◌∙◌, refl}
use Rattle.std.proofs.lemmas.Slice.Eq.{bytes_eq-Decides}
use Rattle.admin_paths.specs.Paths.{is_apis, is_keys, is_parameter, is_plan_key, is_plans, is_stage, path_in}
use Rattle.admin_paths.specs.Found.{HasParameters, IsParameter, PathsAreFound, segments_of}
use Rattle.admin_paths.specs.declared.paths.AdminPath.{AdminPath}
use Rattle.admin_paths.specs.declared.paths.AdminPath.TheVariants.{Document, Template, Deployments, Stage, Canary, Promote, Flush, Key, Plan, PlanKey, Grant, Usage, Shutdown}

abbrev Fits : List (List ℕ) → AdminPath → Type 0
Fits segments path = (segments ≡ segments_of path) × HasParameters path

abbrev AllFit : List (List ℕ) → Option AdminPath → Type 0
AllFit segments None = Unit {0}
AllFit segments (Some path) = Fits segments path

-- where a test decides for a path
or_fits : (segments : List (List ℕ)) (v : Bool) (this : AdminPath) (other : Option AdminPath) → (v ≡ true → Fits segments this) → AllFit segments other
    → AllFit segments (cond v (Some this) other)
or_fits segments true this other f g = f refl
or_fits segments false this other f g = g

both : (a b : Bool) → (a && b) ≡ true → (a ≡ true) × (b ≡ true)
both true b e = (refl, e)
both false b e = absurd cc

is : (x y : List ℕ) → bytes_eq x y ≡ true → x ≡ y
is x y e = (bytes_eq-Decides x y).0 e

-- the parts of a test
in_two : (s t w : List ℕ) → (bytes_eq s w && is_parameter t) ≡ true → (s ∷ t ∷ [] ≡ w ∷ t ∷ []) × IsParameter t
in_two s t w e = let b = both (bytes_eq s w) (is_parameter t) e in (ap (λ x. x ∷ t ∷ []) (is s w b.0), b.1)

in_three : (s t u w : List ℕ) → (is_apis s && is_parameter t && bytes_eq u w) ≡ true → (s ∷ t ∷ u ∷ [] ≡ codes "apis" ∷ t ∷ w ∷ []) × IsParameter t
in_three s t u w e =
    let b = both (is_apis s && is_parameter t) (bytes_eq u w) e in
    let c = both (is_apis s) (is_parameter t) b.0 in
    (ap (λ x. x ∷ t ∷ u ∷ []) (is s (codes "apis") c.0) ∙ ap (λ x. codes "apis" ∷ t ∷ x ∷ []) (is u w b.1), c.1)

in_four : (s t u a w x : List ℕ) (rest : List (List ℕ)) → (bytes_eq s w && is_parameter t && bytes_eq u x && is_parameter a) ≡ true
    → (s ∷ t ∷ u ∷ a ∷ rest ≡ w ∷ t ∷ x ∷ a ∷ rest) × (IsParameter t × IsParameter a)
in_four s t u a w x rest e =
    let b = both (bytes_eq s w && is_parameter t && bytes_eq u x) (is_parameter a) e in
    let c = both (bytes_eq s w && is_parameter t) (bytes_eq u x) b.0 in
    let d = both (bytes_eq s w) (is_parameter t) c.0 in
    (ap (λ y. y ∷ t ∷ u ∷ a ∷ rest) (is s w d.0) ∙ ap (λ y. w ∷ t ∷ y ∷ a ∷ rest) (is u x c.1), (d.1, b.1))

in_five : (s t u a b w x y : List ℕ) → (bytes_eq s w && is_parameter t && bytes_eq u x && is_parameter a && bytes_eq b y) ≡ true
    → (s ∷ t ∷ u ∷ a ∷ b ∷ [] ≡ w ∷ t ∷ x ∷ a ∷ y ∷ []) × (IsParameter t × IsParameter a)
in_five s t u a b w x y e =
    let h = both (bytes_eq s w && is_parameter t && bytes_eq u x && is_parameter a) (bytes_eq b y) e in
    let f = in_four s t u a w x (b ∷ []) h.0 in
    (f.0 ∙ ap (λ z. w ∷ t ∷ x ∷ a ∷ z ∷ []) (is b y h.1), f.1)

-- what is found fits
fits : (segments : List (List ℕ)) → AllFit segments (path_in segments)
unfolding path_in
fits [] = tt
fits (s ∷ []) = or_fits (s ∷ []) (bytes_eq s (codes "shutdown")) Shutdown None (λ e. (ap (λ x. x ∷ []) (is s (codes "shutdown") e), tt)) tt
fits (s ∷ t ∷ []) =
    let all = s ∷ t ∷ [] in
    or_fits all (is_apis s && is_parameter t) (Document t) _ (in_two s t (codes "apis"))
    (or_fits all (is_keys s && is_parameter t) (Key t) _ (in_two s t (codes "keys"))
    (or_fits all (is_plans s && is_parameter t) (Plan t) None (in_two s t (codes "plans")) tt))
fits (s ∷ t ∷ u ∷ []) =
    let all = s ∷ t ∷ u ∷ [] in
    or_fits all (is_apis s && is_parameter t && bytes_eq u (codes "deployments")) (Deployments t) _ (in_three s t u (codes "deployments"))
    (or_fits all (is_apis s && is_parameter t && bytes_eq u (codes "text")) (Template t) None (in_three s t u (codes "text")) tt)
fits (s ∷ t ∷ u ∷ a ∷ []) =
    let all = s ∷ t ∷ u ∷ a ∷ [] in
    or_fits all (is_stage s t u a) (Stage t a) _ (in_four s t u a (codes "apis") (codes "stages") [])
    (or_fits all (is_plan_key s t u a) (PlanKey t a) None (in_four s t u a (codes "plans") (codes "keys") []) tt)
fits (s ∷ t ∷ u ∷ a ∷ b ∷ []) =
    let all = s ∷ t ∷ u ∷ a ∷ b ∷ [] in
    or_fits all (is_stage s t u a && bytes_eq b (codes "canary")) (Canary t a) _ (in_five s t u a b (codes "apis") (codes "stages") (codes "canary"))
    (or_fits all (is_stage s t u a && bytes_eq b (codes "flush")) (Flush t a) _ (in_five s t u a b (codes "apis") (codes "stages") (codes "flush"))
    (or_fits all (is_stage s t u a && bytes_eq b (codes "promote")) (Promote t a) _ (in_five s t u a b (codes "apis") (codes "stages") (codes "promote"))
    (or_fits all (is_plan_key s t u a && bytes_eq b (codes "grant")) (Grant t a) _ (in_five s t u a b (codes "plans") (codes "keys") (codes "grant"))
    (or_fits all (is_plan_key s t u a && bytes_eq b (codes "usage")) (Usage t a) None (in_five s t u a b (codes "plans") (codes "keys") (codes "usage")) tt))))
fits (s ∷ t ∷ u ∷ a ∷ b ∷ c ∷ rest) = tt

-- and what fits is found
finds : (path : AdminPath) → HasParameters path → path_in (segments_of path) ≡ Some path
unfolding path_in
finds (Document api) h = rw h refl
finds (Template api) h = rw h refl
finds (Deployments api) h = rw h refl
finds (Stage api stage) (h, k) = rw (h, k) refl
finds (Canary api stage) (h, k) = rw (h, k) refl
finds (Promote api stage) (h, k) = rw (h, k) refl
finds (Flush api stage) (h, k) = rw (h, k) refl
finds (Key key) h = rw h refl
finds (Plan plan) h = rw h refl
finds (PlanKey plan key) (h, k) = rw (h, k) refl
finds (Grant plan key) (h, k) = rw (h, k) refl
finds (Usage plan key) (h, k) = rw (h, k) refl
finds Shutdown h = refl

pub paths_are_found : PathsAreFound
paths_are_found segments path = (
  λ e. subst (AllFit segments) e (fits segments),
  λ h. ap path_in h.0 ∙ finds path h.1,
)
