use Rattle.std.proofs.Common.{◌≡◌, ◌++◌, drop, map}
use Rattle.vtl_eval.specs.Idle.{row_at, holds}
use Rattle.vtl_eval.proofs.idle.next_row.Given as goal

abbrev pub invariant-loop-body : goal.invariant-loop-body
invariant-loop-body l = l.next.items ++ map (holds (row_at l.row)) (drop l.body-index l.bodies) ≡ map (holds (row_at l.row)) l.bodies
