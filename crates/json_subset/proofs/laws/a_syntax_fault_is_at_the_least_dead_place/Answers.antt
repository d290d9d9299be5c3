use Rattle.json_subset.proofs.Least.{syntax_is_least}
use Rattle.json_subset.proofs.laws.a_syntax_fault_is_at_the_least_dead_place.Goals as goal

pub returns : goal.returns
returns c = syntax_is_least
