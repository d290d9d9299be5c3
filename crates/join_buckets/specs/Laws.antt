-- The level of one of several buckets over a history: the admissions to which it applies count, and all others only bring it up to date.
use Rattle.std.specs.Prelude.{◌≡◌, ℕ, ◌≤◌, Bool, true, false, List, [], ◌∷◌, map, if◌then◌else◌}
use Rattle.usage_meter.specs.Levels.{bucket_after_admission, bucket_at, capacity, level_at}
use Rattle.usage_meter.specs.Windows.{AreAdmissions, AreInOrder, level_over}
use Rattle.usage_meter.specs.declared.throttle.Bucket.{Bucket}
use Rattle.usage_meter.specs.declared.throttle.Throttle.{Throttle}

-- an admission of the key: its moment, and whether this bucket applies to it
abbrev pub Admission : Type 0
Admission = ℕ × Bool

-- the bucket behind the admissions, the newest first
abbrev pub kept_through : Throttle → Bucket → List Admission → Bucket
kept_through throttle begun [] = begun
kept_through throttle begun ((at, applies) ∷ xs) =
    if applies then bucket_after_admission throttle (kept_through throttle begun xs) at else bucket_at throttle (kept_through throttle begun xs) at

abbrev pub moments_of : List Admission → List ℕ
moments_of admissions = map (λ (a : Admission). a.0) admissions

-- the moments of those to which the bucket applies
abbrev pub charged_at : List Admission → List ℕ
charged_at [] = []
charged_at ((at, applies) ∷ xs) = if applies then at ∷ charged_at xs else charged_at xs

-- LAW: the level that is kept is the least over all windows of the admissions to which the bucket applies
abbrev pub EachLevelIsLeast : Type 0
EachLevelIsLeast =
    (throttle : Throttle) (begun : Bucket) (admissions : List Admission) (t : ℕ)
    → begun.level ≤ capacity throttle → AreInOrder begun.at (moments_of admissions) t
    → AreAdmissions throttle begun (charged_at admissions)
    → level_at throttle (kept_through throttle begun admissions) t ≡ level_over throttle begun (charged_at admissions) t
