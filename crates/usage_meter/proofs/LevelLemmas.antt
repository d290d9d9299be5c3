-- Levels that are brought up to date.
use Rattle.std.proofs.Common.{◌≡◌, ℕ, ◌+◌, ◌-◌, ◌*◌, ◌≤◌, arith}
use Rattle.usage_meter.specs.Levels.{TwiceIsOnce}

-- what rises in two stretches
pub rise-split : (rate a b c : ℕ) → a ≤ b → b ≤ c → rate * (c - a) ≡ rate * (b - a) + rate * (c - b)
rise-split rate a b c h k =
    let gap : c - a ≡ (b - a) + (c - b) = omega arith in
    rw gap (grind arith)

-- a level that is brought up to date twice
pub level_at-bucket_at : TwiceIsOnce
level_at-bucket_at throttle bucket first t h k =
    let rise = rise-split throttle.rate bucket.at first t h k in
    omega arith
