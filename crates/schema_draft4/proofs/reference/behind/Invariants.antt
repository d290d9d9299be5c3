use Rattle.std.proofs.Common.{◌≡◌, length}
use Rattle.schema_draft4.specs.Reading as says
use Rattle.schema_draft4.proofs.reference.behind.Given as goal

abbrev pub invariant-loop-front : goal.invariant-loop-front
invariant-loop-front l = says.behind l.front l.bytes ≡ says.behind l.fn.front l.fn.bytes

abbrev pub decreases-loop-front : goal.decreases-loop-front
decreases-loop-front l = length l.front
