use Rattle.json_subset.proofs.Spelled.{read_is_spelled}
use Rattle.json_subset.proofs.laws.what_is_read_is_spelled.Goals as goal

pub returns : goal.returns
returns c = read_is_spelled
