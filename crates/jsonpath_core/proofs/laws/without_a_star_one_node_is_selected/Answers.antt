use Rattle.std.proofs.Common.{◌∷◌, [], arith}
use Rattle.jsonpath_core.proofs.Picked.{selects_one}
use Rattle.jsonpath_core.proofs.laws.without_a_star_one_node_is_selected.Goals as goal

pub returns : goal.returns
returns c = λ steps t e. selects_one steps (t ∷ []) e (omega arith)
