-- The level of a token bucket, in thousandths of an admission. Moments are milliseconds since 1970.
use Rattle.std.specs.Prelude.{◌≡◌, ℕ, ◌+◌, ◌-◌, ◌*◌, ◌≤◌, min, nat_le, if◌then◌else◌}
use Rattle.std.specs.Int.{IsInRange}
use Rattle.usage_meter.specs.declared.throttle.Throttle.{Throttle}
use Rattle.usage_meter.specs.declared.throttle.Bucket.{Bucket}

-- a throttle that a plan may have
pub record IsThrottle (throttle : Throttle) : Type 0 where
  pub rate : IsInRange 1 1_000_000 throttle.rate
  pub burst : IsInRange 1 1_000_000 throttle.burst

-- the level of a full bucket
abbrev pub capacity : Throttle → ℕ
capacity throttle = 1000 * throttle.burst

-- the level at t, if nothing was taken since the bucket's own moment: it rises by the rate each millisecond, and
-- stops at full
abbrev pub level_at : Throttle → Bucket → ℕ → ℕ
level_at throttle bucket t = min (capacity throttle) (bucket.level + throttle.rate * (t - bucket.at))

-- the bucket, brought up to date
abbrev pub bucket_at : Throttle → Bucket → ℕ → Bucket
bucket_at throttle bucket t = record { level = level_at throttle bucket t; at = t }

-- the bucket after an admission at t, which takes 1,000
abbrev pub bucket_after_admission : Throttle → Bucket → ℕ → Bucket
bucket_after_admission throttle bucket t = record { level = level_at throttle bucket t - 1000; at = t }

-- the bucket after an attempt at t, which is admitted where the level is 1,000 or more, and else changes nothing
abbrev pub bucket_after_attempt : Throttle → Bucket → ℕ → Bucket
bucket_after_attempt throttle bucket t =
    if nat_le 1000 (level_at throttle bucket t) then bucket_after_admission throttle bucket t else bucket

-- LAW: bringing a level up to date twice is bringing it up to date once
abbrev pub TwiceIsOnce : Type 0
TwiceIsOnce =
    (throttle : Throttle) (bucket : Bucket) (first t : ℕ) → bucket.at ≤ first → first ≤ t
    → level_at throttle (bucket_at throttle bucket first) t ≡ level_at throttle bucket t
