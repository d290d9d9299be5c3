use Rattle.usage_plans.proofs.Showing.{counts-conserved}
use Rattle.usage_plans.proofs.laws.counts_are_conserved.Goals as goal

pub returns : goal.returns
returns c = counts-conserved
