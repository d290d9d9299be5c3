use Rattle.resource_tree.proofs.Apart.{never_two_best}
use Rattle.resource_tree.proofs.laws.one_path_is_best.Goals as goal

pub returns : goal.returns
returns c = λ texts paths segments first second good read. never_two_best texts paths good read segments first second
