-- The buckets of a key that joined a plan: all have their levels of one moment. Levels are thousandths of an admission.
use Rattle.std.specs.Prelude.{◌≡◌, ℕ, ◌+◌, ◌-◌, ◌≤◌, nat_lt, Bool, true, ◌&&◌, List, [], ◌∷◌, Option, Some, None, if◌then◌else◌, ⊤}
use Rattle.usage_meter.specs.Levels.{IsThrottle, capacity, level_at}
use Rattle.join_buckets.specs.declared.limit.Limit.{Limit}
use Rattle.join_buckets.specs.declared.limit.Spent.{Spent}

-- the level of a bucket at t, which was at this one at a moment before
abbrev pub level_by : Limit → ℕ → ℕ → ℕ → ℕ
level_by limit level at t = level_at limit.throttle (record { level = level; at = at }) t

-- each limit is a throttle that a plan may have, and has its level, which is full at most
abbrev pub AreLevels : List Limit → List ℕ → Type 0
AreLevels [] [] = ⊤
AreLevels [] (level ∷ levels) = ⊥
AreLevels (limit ∷ limits) [] = ⊥
AreLevels (limit ∷ limits) (level ∷ levels) = IsThrottle limit.throttle × (level ≤ capacity limit.throttle) × AreLevels limits levels

-- the least bucket, from this number on, that applies and has less than an admission at t, with its level
abbrev pub first_spent_from : ℕ → List Limit → List ℕ → ℕ → ℕ → Option Spent
first_spent_from number [] levels at t = None
first_spent_from number (limit ∷ limits) [] at t = None
first_spent_from number (limit ∷ limits) (level ∷ levels) at t =
    if limit.applies && nat_lt (level_by limit level at t) 1000 then Some (record { bucket = number; level = level_by limit level at t })
    else first_spent_from (number + 1) limits levels at t

-- the level of a bucket behind an admission at t: it is brought up to date, and the admission takes 1,000 where it applies
abbrev pub level_behind : Limit → ℕ → ℕ → ℕ → ℕ
level_behind limit level at t = if limit.applies then level_by limit level at t - 1000 else level_by limit level at t

-- each level so, by its limit
abbrev pub each_level : (Limit → ℕ → ℕ) → List Limit → List ℕ → List ℕ
each_level f [] levels = []
each_level f (limit ∷ limits) [] = []
each_level f (limit ∷ limits) (level ∷ levels) = f limit level ∷ each_level f limits levels

abbrev pub levels_behind : List Limit → List ℕ → ℕ → ℕ → List ℕ
levels_behind limits levels at t = each_level (λ limit level. level_behind limit level at t) limits levels

-- the levels, brought up to date
abbrev pub levels_by : List Limit → List ℕ → ℕ → ℕ → List ℕ
levels_by limits levels at t = each_level (λ limit level. level_by limit level at t) limits levels
