use Rattle.usage_plans.proofs.Showing.{level-is-least}
use Rattle.usage_plans.proofs.laws.the_kept_level_is_the_least.Goals as goal

pub returns : goal.returns
returns c = level-is-least
