use Rattle.usage_meter.proofs.PeriodLemmas.{is_standing-holds}
use Rattle.usage_meter.proofs.period.Period.holds.Goals as goal

pub returns-clause-holds : goal.returns-clause-holds
returns-clause-holds c =
    let number = c.of.ensures.value in
    rw number (is_standing-holds c.args.self c.args.moment c.requires)
