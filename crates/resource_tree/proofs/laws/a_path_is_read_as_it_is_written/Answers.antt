use Rattle.resource_tree.proofs.Spelled.{read_spelled, spelled_read}
use Rattle.resource_tree.proofs.laws.a_path_is_read_as_it_is_written.Goals as goal

pub returns : goal.returns
returns c = λ path parts. (read_spelled path parts, spelled_read path parts)
