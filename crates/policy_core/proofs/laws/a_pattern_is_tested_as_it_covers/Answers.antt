use Rattle.policy_core.proofs.Drawn.{drawn, passes}
use Rattle.policy_core.proofs.laws.a_pattern_is_tested_as_it_covers.Goals as goal

pub returns : goal.returns
returns c = λ same pattern text. (drawn same pattern text, passes same pattern text)
