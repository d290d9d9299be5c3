use Rattle.std.proofs.Common.{◌≡◌, ◌++◌, take}
use Rattle.integration_request.proofs.placing.push_all.Given as goal

abbrev pub invariant-loop-value : goal.invariant-loop-value
invariant-loop-value l = l.made.items ≡ l.initial.made.items ++ take l.value-index l.values
