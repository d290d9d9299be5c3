use Rattle.usage_plans.proofs.Showing.{refusals-exact}
use Rattle.usage_plans.proofs.laws.refusals_are_exact.Goals as goal

pub returns : goal.returns
returns c = refusals-exact
