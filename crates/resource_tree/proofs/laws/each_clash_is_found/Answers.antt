use Rattle.resource_tree.proofs.Clashing.{clashing, clash_found}
use Rattle.resource_tree.proofs.laws.each_clash_is_found.Goals as goal

pub returns : goal.returns
returns c = λ first second. (clashing first second, λ clash. clash_found clash)
