use Rattle.std.proofs.Common.{◌≡◌, drop}
use Rattle.resource_tree.specs.Parameters.{value_at}
use Rattle.api_model.proofs.api.named.Given as goal

abbrev pub invariant-loop-pair : goal.invariant-loop-pair
invariant-loop-pair g l = value_at (drop l.pair-index l.pairs) l.name ≡ value_at l.pairs l.name
