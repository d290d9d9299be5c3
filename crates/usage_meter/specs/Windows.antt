-- The level of a token bucket over a history, which is the moments of its admissions, the newest first, and nothing
-- else.
use Rattle.std.specs.Prelude.{◌≡◌, ℕ, ◌+◌, ◌-◌, ◌*◌, ◌≤◌, min, nat_le, if◌then◌else◌, List, [], ◌∷◌, length, map, fold, ⊤}
use Rattle.std.specs.List.{enumerate_from, AllByRecursion}
use Rattle.usage_meter.specs.declared.throttle.Throttle.{Throttle}
use Rattle.usage_meter.specs.declared.throttle.Bucket.{Bucket}
use Rattle.usage_meter.specs.Levels.{capacity, level_at, bucket_after_admission, bucket_after_attempt}

abbrev pub full_bucket : Throttle → ℕ → Bucket
full_bucket throttle at = record { level = capacity throttle; at = at }

-- what a window leaves at t that begins with this bucket and has this many admissions in it, if nothing runs over
abbrev pub window_level : Throttle → Bucket → ℕ → ℕ → ℕ
window_level throttle bucket count t = bucket.level + throttle.rate * (t - bucket.at) - 1000 * count

-- What each window leaves at t. The first begins with the bucket as it began, and has all admissions in it. Of the
-- others one begins at each admission, before which the bucket was full at most: the newest has one admission in it,
-- the one before two.
abbrev pub window_levels : Throttle → Bucket → List ℕ → ℕ → List ℕ
window_levels throttle begun admissions t =
    window_level throttle begun (length admissions) t
    ∷ map (λ w. window_level throttle (full_bucket throttle w.1) w.0 t) (enumerate_from 1 admissions)

-- the level at t: the least that a window leaves, and full at most
abbrev pub level_over : Throttle → Bucket → List ℕ → ℕ → ℕ
level_over throttle begun admissions t =
    fold min (capacity throttle) (window_levels throttle begun admissions t)

-- of moments, the newest first, none is after t, after a newer one, or before the beginning
abbrev pub AreInOrder : ℕ → List ℕ → ℕ → Type 0
AreInOrder begin [] t = begin ≤ t
AreInOrder begin (x ∷ xs) t = (x ≤ t) × AreInOrder begin xs x

-- each found 1,000 when it came, over the history before it
abbrev pub AreAdmissions : Throttle → Bucket → List ℕ → Type 0
AreAdmissions throttle begun [] = ⊤
AreAdmissions throttle begun (x ∷ xs) =
    (1000 ≤ level_over throttle begun xs x) × AreAdmissions throttle begun xs

-- the bucket whose one level is kept, and brought up to date at each admission
abbrev pub kept_bucket : Throttle → Bucket → List ℕ → Bucket
kept_bucket throttle begun [] = begun
kept_bucket throttle begun (x ∷ xs) = bucket_after_admission throttle (kept_bucket throttle begun xs) x

-- LAW: the level that is kept is the least over all windows
abbrev pub KeptIsLeast : Type 0
KeptIsLeast =
    (throttle : Throttle) (begun : Bucket) (admissions : List ℕ) (t : ℕ)
    → begun.level ≤ capacity throttle → AreInOrder begun.at admissions t
    → AreAdmissions throttle begun admissions
    → level_at throttle (kept_bucket throttle begun admissions) t ≡ level_over throttle begun admissions t

-- a window that begins with this bucket holds what this many admissions take
abbrev pub Covers : Throttle → Bucket → ℕ → ℕ → Type 0
Covers throttle bucket count t = 1000 * count ≤ bucket.level + throttle.rate * (t - bucket.at)

-- LAW: no window is overdrawn, so that no subtraction in `window_level` stops at 0
abbrev pub NoneIsOverdrawn : Type 0
NoneIsOverdrawn =
    (throttle : Throttle) (begun : Bucket) (admissions : List ℕ) (t : ℕ)
    → AreInOrder begun.at admissions t → AreAdmissions throttle begun admissions
    → Covers throttle begun (length admissions) t
    × AllByRecursion (λ w. Covers throttle (full_bucket throttle w.1) w.0 t) (enumerate_from 1 admissions)

-- the admissions with an attempt at x, if it finds 1,000 over the ones before
abbrev pub admissions_with : Throttle → Bucket → ℕ → List ℕ → List ℕ
admissions_with throttle begun x before =
    if nat_le 1000 (level_over throttle begun before x) then x ∷ before else before

-- the admissions among attempts, the newest first
abbrev pub admissions_of : Throttle → Bucket → List ℕ → List ℕ
admissions_of throttle begun [] = []
admissions_of throttle begun (x ∷ xs) = admissions_with throttle begun x (admissions_of throttle begun xs)

-- the bucket after attempts
abbrev pub bucket_after_attempts : Throttle → Bucket → List ℕ → Bucket
bucket_after_attempts throttle begun [] = begun
bucket_after_attempts throttle begun (x ∷ xs) =
    bucket_after_attempt throttle (bucket_after_attempts throttle begun xs) x

-- the bucket is the one that is kept over these admissions, and at t its level is the least over their windows
pub record IsKeptOver (throttle : Throttle) (begun : Bucket) (xs : List ℕ) (bucket : Bucket) (t : ℕ) : Type 0 where
  pub bucket_is : bucket ≡ kept_bucket throttle begun xs
  pub level_is : level_at throttle bucket t ≡ level_over throttle begun xs t

-- LAW: after any attempts in order the bucket is kept over those that the windows admit, and no others
abbrev pub AdmitsByWindows : Type 0
AdmitsByWindows =
    (throttle : Throttle) (begun : Bucket) (attempts : List ℕ) (t : ℕ)
    → begun.level ≤ capacity throttle → AreInOrder begun.at attempts t
    → IsKeptOver throttle begun (admissions_of throttle begun attempts)
    (bucket_after_attempts throttle begun attempts) t
