use Rattle.std.proofs.Common.{◌≡◌, drop}
use Rattle.json_values.specs.Amounts as says
use Rattle.json_values.proofs.number.some_digit.Given as goal

abbrev pub invariant-loop-b : goal.invariant-loop-b
invariant-loop-b l = says.some_digit (drop l.b-index l.bytes) ≡ says.some_digit l.bytes
