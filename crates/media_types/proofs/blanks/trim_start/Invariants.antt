use Rattle.std.proofs.Common.{◌≡◌, ◌-◌, length, drop}
use Rattle.std.specs.Str.{IsCharBoundary}
use Rattle.media_types.specs.Blanks.{without_start}
use Rattle.media_types.proofs.blanks.trim_start.Given as goal

abbrev pub invariant-loop-start : goal.invariant-loop-start
invariant-loop-start l = record {
  boundary : IsCharBoundary l.text l.start;
  same : without_start (drop l.start l.text) ≡ without_start l.text;
}

abbrev pub decreases-loop-start : goal.decreases-loop-start
decreases-loop-start l = length l.text - l.start
