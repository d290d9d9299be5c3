use Rattle.jsonpath_core.proofs.Complete.{path_read}
use Rattle.jsonpath_core.proofs.laws.a_path_has_one_reading.Goals as goal

pub returns : goal.returns
returns c = λ text first second p q. let a = path_read text first p in let b = path_read text second q in cc
