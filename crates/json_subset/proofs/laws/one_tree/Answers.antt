use Rattle.json_subset.proofs.Spelled.{one_tree}
use Rattle.json_subset.proofs.laws.one_tree.Goals as goal

pub returns : goal.returns
returns c = one_tree
