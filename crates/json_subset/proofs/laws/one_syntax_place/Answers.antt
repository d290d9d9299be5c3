use Rattle.json_subset.proofs.Least.{one_place}
use Rattle.json_subset.proofs.laws.one_syntax_place.Goals as goal

pub returns : goal.returns
returns c = one_place
