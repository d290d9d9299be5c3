use Rattle.std.proofs.Common.{◌≡◌, length}
use Rattle.record_fields.specs.Coding.{are_escapes}
use Rattle.record_fields.proofs.fields.are_escapes.Given as goal

abbrev pub invariant-loop-rest : goal.invariant-loop-rest
invariant-loop-rest l = are_escapes l.rest ≡ are_escapes l.field

abbrev pub decreases-loop-rest : goal.decreases-loop-rest
decreases-loop-rest l = length l.rest
