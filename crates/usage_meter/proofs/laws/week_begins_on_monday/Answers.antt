use Rattle.usage_meter.proofs.PeriodLemmas.{weekday_number-week}
use Rattle.usage_meter.proofs.laws.week_begins_on_monday.Goals as goal

pub returns : goal.returns
returns c = weekday_number-week
