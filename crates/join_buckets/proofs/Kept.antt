-- A bucket that is brought up to date in between has the level of one that is not.
use Rattle.std.proofs.Common.{◌≡◌, ◌≤◌, ℕ, ◌-◌, Bool, true, false, cond, List, [], ◌∷◌, refl, ap, sym, subst, ◌∙◌, arith}
use Rattle.usage_meter.specs.Levels.{bucket_after_admission, bucket_at, capacity, level_at}
use Rattle.usage_meter.specs.Windows.{AreAdmissions, AreInOrder, kept_bucket}
use Rattle.usage_meter.specs.declared.throttle.Bucket.{Bucket}
use Rattle.usage_meter.specs.declared.throttle.Throttle.{Throttle}
use Rattle.usage_meter.proofs.LevelLemmas.{level_at-bucket_at}
use Rattle.usage_meter.proofs.WindowLemmas.{kept-least}
use Rattle.join_buckets.specs.Laws.{Admission, EachLevelIsLeast, charged_at, kept_through, moments_of}

module _ (throttle : Throttle) (begun : Bucket) where
  -- its moment is that of the newest admission
  moment_early : (xs : List Admission) (t : ℕ) → AreInOrder begun.at (moments_of xs) t → (kept_through throttle begun xs).at ≤ t
  moment_early [] t order = order
  moment_early ((at, true) ∷ xs) t order = order.0
  moment_early ((at, false) ∷ xs) t order = order.0

  -- the charged moments are in order as well
  charged_order : (xs : List Admission) (t : ℕ) → AreInOrder begun.at (moments_of xs) t → AreInOrder begun.at (charged_at xs) t
  charged_order [] t order = order
  charged_order ((at, true) ∷ xs) t order = (order.0, charged_order xs at order.1)
  charged_order ((at, false) ∷ xs) t order = later (charged_at xs) at t order.0 (charged_order xs at order.1)
    where
      later : (ms : List ℕ) (x t : ℕ) → x ≤ t → AreInOrder begun.at ms x → AreInOrder begun.at ms t
      later [] x t l o = omega (arith, l, o)
      later (m ∷ ms) x t l o = (omega (arith, l, o.0), o.1)

  pub same_level : (xs : List Admission) (t : ℕ) → AreInOrder begun.at (moments_of xs) t
      → level_at throttle (kept_through throttle begun xs) t ≡ level_at throttle (kept_bucket throttle begun (charged_at xs)) t
  same_level [] t order = refl
  same_level ((at, true) ∷ xs) t order =
      ap (λ (level : ℕ). level_at throttle (record { level = level - 1000; at = at }) t) (same_level xs at order.1)
  same_level ((at, false) ∷ xs) t order =
      level_at-bucket_at throttle (kept_through throttle begun xs) at t (moment_early xs at order.1) order.0
      ∙ same_level xs t (later order.0 xs order.1)
    where
      later : {x t : ℕ} → x ≤ t → (ys : List Admission) → AreInOrder begun.at (moments_of ys) x → AreInOrder begun.at (moments_of ys) t
      later l [] o = omega (arith, l, o)
      later l (y ∷ ys) o = (omega (arith, l, o.0), o.1)

  pub charged_in_order : (xs : List Admission) (t : ℕ) → AreInOrder begun.at (moments_of xs) t → AreInOrder begun.at (charged_at xs) t
  charged_in_order xs t order = charged_order xs t order

pub each_level_is_least : EachLevelIsLeast
each_level_is_least throttle begun xs t full order admitted =
    same_level throttle begun xs t order ∙ kept-least throttle begun (charged_at xs) t full (charged_in_order throttle begun xs t order) admitted
