use Rattle.usage_meter.proofs.PeriodLemmas.{number-date}
use Rattle.usage_meter.proofs.laws.month_number_is_of_date.Goals as goal

pub returns : goal.returns
returns c = number-date
