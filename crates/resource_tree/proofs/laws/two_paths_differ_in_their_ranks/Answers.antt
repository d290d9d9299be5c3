use Rattle.resource_tree.proofs.Apart.{never_alike}
use Rattle.resource_tree.proofs.laws.two_paths_differ_in_their_ranks.Goals as goal

pub returns : goal.returns
returns c = λ texts paths segments first second good read. never_alike texts paths good read segments first second
