use Rattle.std.proofs.Common.{◌≡◌, drop}
use Rattle.schema_draft4.specs.Reading as says
use Rattle.schema_draft4.proofs.reference.are_inner.Given as goal

abbrev pub invariant-loop-b : goal.invariant-loop-b
invariant-loop-b l = says.are_inner (drop l.b-index l.bytes) ≡ says.are_inner l.bytes
