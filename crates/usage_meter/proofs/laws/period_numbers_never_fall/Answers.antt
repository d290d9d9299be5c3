use Rattle.usage_meter.proofs.PeriodLemmas.{numbers_in_order}
use Rattle.usage_meter.proofs.laws.period_numbers_never_fall.Goals as goal

pub returns : goal.returns
returns c = numbers_in_order
