use Rattle.std.proofs.Common.{◌≡◌, map, take}
use Rattle.integration_request.specs.PathValues.{plain}
use Rattle.integration_request.proofs.placing.plain_values.Given as goal

abbrev pub invariant-loop-over : goal.invariant-loop-over
invariant-loop-over l = l.made.items ≡ map plain (take l.over-index l.overs)
