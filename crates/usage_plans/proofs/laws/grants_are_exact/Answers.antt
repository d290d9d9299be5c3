use Rattle.usage_plans.proofs.Showing.{grants-exact}
use Rattle.usage_plans.proofs.laws.grants_are_exact.Goals as goal

pub returns : goal.returns
returns c = grants-exact
