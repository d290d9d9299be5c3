use Rattle.std.proofs.Common.{length, ◌-◌, ◌≡◌, ◌++◌, take, drop}
use Rattle.join_buckets.specs.Buckets.{AreLevels, levels_by}
use Rattle.join_buckets.proofs.buckets.bring_up.Given as goal

abbrev pub invariant-loop-i : goal.invariant-loop-i
invariant-loop-i l = record {
  done : take l.i l.levels ++ levels_by (drop l.i l.limits) (drop l.i l.levels) l.at l.t ≡ levels_by l.limits l.initial.levels l.at l.t;
  are : AreLevels l.limits l.levels;
  many : length l.levels ≡ length l.limits;
}

abbrev pub decreases-loop-i : goal.decreases-loop-i
decreases-loop-i l = length l.limits - l.i
