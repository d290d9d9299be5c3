use Rattle.std.proofs.Common.{◌≡◌, ◌++◌, take}
use Rattle.integration_request.proofs.copies.push_all.Given as goal

abbrev pub invariant-loop-pair : goal.invariant-loop-pair
invariant-loop-pair l = l.made.items ≡ l.initial.made.items ++ take l.pair-index l.pairs
