use Rattle.std.proofs.Common.{length}
use Rattle.json_subset.specs.Opened.{rest_of}
use Rattle.json_subset.proofs.Going.{Going}
use Rattle.json_subset.proofs.reader.read_value.Given as goal

abbrev pub invariant-turns : goal.invariant-turns
invariant-turns l = Going l.text l.start l.nodes.items l.stack.items l.turn

abbrev pub decreases-turns : goal.decreases-turns
decreases-turns l = length (rest_of l.turn)
