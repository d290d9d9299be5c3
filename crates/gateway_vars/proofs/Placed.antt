-- A value for a name among pairs.
use Rattle.std.proofs.Common.{◌≡◌, ℕ, suc, ◌+◌, ◌<◌, ◌≤◌, List, [], ◌∷◌, ◌++◌, length, Bool, true, false, refl, ap, ◌∙◌, slice_set, arith}
use Rattle.std.specs.Prelude.{if◌then◌else◌, bytes_eq}
use Rattle.gateway_vars.specs.Changes.{place_of}
use Rattle.gateway_vars.specs.Overriding.{put_pair}
use Rattle.call_facts.specs.Pairs.{Pairs}

set_at : (ps : Pairs) (x t : List ℕ) → place_of ps x < length ps → slice_set ps (place_of ps x) (x, t) ≡ put_pair ps x t
set_at [] x t = λ h. absurd (omega (arith, h))
set_at (p ∷ ps) x t = go (bytes_eq p.0 x) (set_at ps x t)
  where
    go : (b : Bool) → (place_of ps x < length ps → slice_set ps (place_of ps x) (x, t) ≡ put_pair ps x t)
        → (if b then 0 else place_of ps x + 1) < length (p ∷ ps)
        → slice_set (p ∷ ps) (if b then 0 else place_of ps x + 1) (x, t) ≡ (if b then (x, t) ∷ ps else p ∷ put_pair ps x t)
    go true ih h = refl
    go false ih h =
        let up : place_of ps x + 1 ≡ suc (place_of ps x) = omega arith in
        ap (λ n. slice_set (p ∷ ps) n (x, t)) up ∙ ap (λ z. p ∷ z) (ih (omega (arith, h)))

set_end : (ps : Pairs) (x t : List ℕ) → length ps ≤ place_of ps x → ps ++ (x, t) ∷ [] ≡ put_pair ps x t
set_end [] x t = λ h. refl
set_end (p ∷ ps) x t = go (bytes_eq p.0 x) (set_end ps x t)
  where
    go : (b : Bool) → (length ps ≤ place_of ps x → ps ++ (x, t) ∷ [] ≡ put_pair ps x t)
        → length (p ∷ ps) ≤ (if b then 0 else place_of ps x + 1)
        → (p ∷ ps) ++ (x, t) ∷ [] ≡ (if b then (x, t) ∷ ps else p ∷ put_pair ps x t)
    go true ih h = absurd (omega (arith, h))
    go false ih h = ap (λ z. p ∷ z) (ih (omega (arith, h)))

-- a name is set in its place
pub pair_set : (ps : Pairs) (x t : List ℕ) (i : ℕ) → i ≡ place_of ps x → i < length ps → slice_set ps i (x, t) ≡ put_pair ps x t
pair_set ps x t i at h = rw at (set_at ps x t (rw (← at) h))

-- a new name goes to the end
pub pair_end : (ps : Pairs) (x t : List ℕ) (i : ℕ) → i ≡ place_of ps x → length ps ≤ i → ps ++ (x, t) ∷ [] ≡ put_pair ps x t
pair_end ps x t i at h = set_end ps x t (rw (← at) h)
