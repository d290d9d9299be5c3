use Rattle.std.proofs.Common.{length, ◌-◌, ◌≡◌, drop}
use Rattle.join_buckets.specs.Buckets.{AreLevels, first_spent_from}
use Rattle.join_buckets.proofs.buckets.first_spent.Given as goal

abbrev pub invariant-loop-i : goal.invariant-loop-i
invariant-loop-i l = record {
  next : first_spent_from l.i (drop l.i l.limits) (drop l.i l.levels) l.at l.t ≡ first_spent_from 0 l.limits l.levels l.at l.t;
  many : length l.levels ≡ length l.limits;
  are : AreLevels (drop l.i l.limits) (drop l.i l.levels);
}

abbrev pub decreases-loop-i : goal.decreases-loop-i
decreases-loop-i l = length l.limits - l.i
