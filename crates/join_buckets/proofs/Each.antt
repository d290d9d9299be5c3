-- Levels, one by one.
use Rattle.std.proofs.Common.{◌≡◌, ◌<◌, ◌≤◌, ℕ, zero, suc, ◌+◌, List, [], ◌∷◌, ◌++◌, length, take, drop, refl, ap, subst, arith}
use Rattle.std.specs.Prelude.{slice_index_or, slice_set}
use Rattle.usage_meter.specs.Levels.{IsThrottle, capacity}
use Rattle.join_buckets.specs.Buckets.{AreLevels, each_level}
use Rattle.join_buckets.specs.declared.limit.Limit.{Limit}

pub as_many : (limits : List Limit) (levels : List ℕ) → AreLevels limits levels → length levels ≡ length limits
as_many [] [] are = refl
as_many [] (level ∷ levels) are = absurd are
as_many (limit ∷ limits) [] are = absurd are
as_many (limit ∷ limits) (level ∷ levels) are = ap suc (as_many limits levels are.2)

pub throttle_at : (limits : List Limit) (levels : List ℕ) (i : ℕ) (d : Limit) → AreLevels limits levels → i < length limits → IsThrottle (slice_index_or limits i d).throttle
throttle_at [] levels i d are less = absurd (omega (arith, less))
throttle_at (limit ∷ limits) [] i d are less = absurd are
throttle_at (limit ∷ limits) (level ∷ levels) zero d are less = are.0
throttle_at (limit ∷ limits) (level ∷ levels) (suc i) d are less = throttle_at limits levels i d are.2 (omega (arith, less))

pub filled_at : (limits : List Limit) (levels : List ℕ) (i : ℕ) (d : Limit) → AreLevels limits levels → i < length limits
    → slice_index_or levels i 0 ≤ capacity (slice_index_or limits i d).throttle
filled_at [] levels i d are less = absurd (omega (arith, less))
filled_at (limit ∷ limits) [] i d are less = absurd are
filled_at (limit ∷ limits) (level ∷ levels) zero d are less = are.1
filled_at (limit ∷ limits) (level ∷ levels) (suc i) d are less = filled_at limits levels i d are.2 (omega (arith, less))

-- with one level written
pub are_with : (limits : List Limit) (levels : List ℕ) (i v : ℕ) (d : Limit) → AreLevels limits levels → i < length limits
    → v ≤ capacity (slice_index_or limits i d).throttle → AreLevels limits (slice_set levels i v)
are_with [] levels i v d are less full = absurd (omega (arith, less))
are_with (limit ∷ limits) [] i v d are less full = absurd are
are_with (limit ∷ limits) (level ∷ levels) zero v d are less full = (are.0, full, are.2)
are_with (limit ∷ limits) (level ∷ levels) (suc i) v d are less full = (are.0, are.1, are_with limits levels i v d are.2 (omega (arith, less)) full)

pub many_with : (levels : List ℕ) (i v : ℕ) → length (slice_set levels i v) ≡ length levels
many_with [] i v = refl
many_with (level ∷ levels) zero v = refl
many_with (level ∷ levels) (suc i) v = ap suc (many_with levels i v)

behind_one : (f : Limit → ℕ → ℕ) (limits : List Limit) (levels : List ℕ) (i : ℕ) (d : Limit) → AreLevels limits levels → i < length limits
    → take (suc i) (slice_set levels i (f (slice_index_or limits i d) (slice_index_or levels i 0)))
    ++ each_level f (drop (suc i) limits) (drop (suc i) (slice_set levels i (f (slice_index_or limits i d) (slice_index_or levels i 0))))
    ≡ take i levels ++ each_level f (drop i limits) (drop i levels)
behind_one f [] levels i d are less = absurd (omega (arith, less))
behind_one f (limit ∷ limits) [] i d are less = absurd are
behind_one f (limit ∷ limits) (level ∷ levels) zero d are less = refl
behind_one f (limit ∷ limits) (level ∷ levels) (suc i) d are less = ap (λ rest. level ∷ rest) (behind_one f limits levels i d are.2 (omega (arith, less)))

-- the levels before this one are written, and those behind it are still to be
pub one_more : (f : Limit → ℕ → ℕ) (limits : List Limit) (levels : List ℕ) (i : ℕ) (d : Limit) → AreLevels limits levels → i < length limits
    → take (i + 1) (slice_set levels i (f (slice_index_or limits i d) (slice_index_or levels i 0)))
    ++ each_level f (drop (i + 1) limits) (drop (i + 1) (slice_set levels i (f (slice_index_or limits i d) (slice_index_or levels i 0))))
    ≡ take i levels ++ each_level f (drop i limits) (drop i levels)
one_more f limits levels i d are less =
    let next : suc i ≡ i + 1 = omega arith in
    subst (λ n. take n (slice_set levels i (f (slice_index_or limits i d) (slice_index_or levels i 0)))
    ++ each_level f (drop n limits) (drop n (slice_set levels i (f (slice_index_or limits i d) (slice_index_or levels i 0))))
    ≡ take i levels ++ each_level f (drop i limits) (drop i levels)) next (behind_one f limits levels i d are less)
