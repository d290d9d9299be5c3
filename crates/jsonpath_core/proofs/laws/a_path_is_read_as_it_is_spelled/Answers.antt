use Rattle.jsonpath_core.proofs.Complete.{path_read}
use Rattle.jsonpath_core.proofs.Sound.{path_sound}
use Rattle.jsonpath_core.proofs.laws.a_path_is_read_as_it_is_spelled.Goals as goal

pub returns : goal.returns
returns c = λ text steps. (path_sound text steps, path_read text steps)
