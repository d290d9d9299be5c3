use Rattle.json_subset.proofs.Least.{syntax_is_answered}
use Rattle.json_subset.proofs.laws.a_syntax_place_is_answered.Goals as goal

pub returns : goal.returns
returns c = syntax_is_answered
