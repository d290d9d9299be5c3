use Rattle.std.proofs.Common.{◌∷◌, [], ◌∙◌}
use Rattle.jsonpath_core.specs.Selecting.{select}
use Rattle.jsonpath_core.proofs.Picked.{in_turn, of_each_apart}
use Rattle.jsonpath_core.proofs.laws.further_steps_select_in_turn.Goals as goal

pub returns : goal.returns
returns c = λ first second t. in_turn first second (t ∷ []) ∙ of_each_apart second (select first t)
