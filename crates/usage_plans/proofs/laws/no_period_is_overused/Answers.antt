use Rattle.usage_plans.proofs.Counting.{none-overused}
use Rattle.usage_plans.proofs.laws.no_period_is_overused.Goals as goal

pub returns : goal.returns
returns c = none-overused
