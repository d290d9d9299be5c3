use Rattle.usage_meter.proofs.PeriodLemmas.{lies_in_one}
use Rattle.usage_meter.proofs.laws.moment_lies_in_one_period.Goals as goal

pub returns : goal.returns
returns c = lies_in_one
