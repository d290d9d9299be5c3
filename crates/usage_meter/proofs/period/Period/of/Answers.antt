use Rattle.usage_meter.proofs.PeriodLemmas.{holds_own}
use Rattle.usage_meter.specs.declared.period.PeriodKind.TheVariants.{Month}
use Rattle.usage_meter.proofs.period.Period.of.Goals as goal

pub returns-in-Month-clause-holds : goal.returns-in-Month-clause-holds
returns-in-Month-clause-holds c =
    rw (c.in-Month.is, c.month_of-number.ensures) (holds_own Month c.args.moment c.requires)
