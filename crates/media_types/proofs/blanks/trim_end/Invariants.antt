use Rattle.std.proofs.Common.{◌≡◌, take}
use Rattle.std.specs.Str.{IsCharBoundary}
use Rattle.media_types.specs.Blanks.{without_end}
use Rattle.media_types.proofs.blanks.trim_end.Given as goal

abbrev pub invariant-loop-end : goal.invariant-loop-end
invariant-loop-end l = record {
  boundary : IsCharBoundary l.text l.end;
  same : without_end (take l.end l.text) ≡ without_end l.text;
}

abbrev pub decreases-loop-end : goal.decreases-loop-end
decreases-loop-end l = l.end
