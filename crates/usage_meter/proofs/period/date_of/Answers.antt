use Rattle.std.proofs.Common.{◌∙◌, ◌≡◌, pos, arith, FitsSigned, w64}
use Rattle.std.proofs.lemmas.Int.{to_z-of_z}
use Rattle.jiff.specs.Types.{Date}
use Rattle.jiff.specs.Words.{epoch_day, IsYmd}
use Rattle.jiff.proofs.SpanFacts.{signed_arith, date_add-days, can_add-days}
use Rattle.jiff_core.proofs.CalendarLemmas.{days_from_civil-day_count, day_count-epoch}
use Rattle.usage_meter.proofs.period.date_of.Goals as goal

-- 1 January 1970 is day 0
epoch_day-first : (d : Date) → IsYmd (pos 1970) (pos 1) (pos 1) d → epoch_day d ≡ pos 0
epoch_day-first d h =
    let month : d.month ≡ 1 = cc in
    let day : d.day ≡ 1 = cc in
    rw (h.0, month, day) (omega (arith, signed_arith, days_from_civil-day_count (pos 1970) 1 1, day_count-epoch))

pub add-requires : goal.add-requires
add-requires c =
    let fits : FitsSigned w64 (pos c.args.day) = omega arith in
    let only = simp (c.from.ensures, to_z-of_z) at c.days.ensures in
    let can = can_add-days c.date.result (pos c.args.day) c.days.result only in
    let first = epoch_day-first c.date.result c.date.ensures in
    can.1 (omega (arith, signed_arith))

pub returns : goal.returns
returns c =
    let fits : FitsSigned w64 (pos c.args.day) = omega arith in
    let only = simp (c.from.ensures, to_z-of_z) at c.days.ensures in
    let added = date_add-days c.date.result (pos c.args.day) c.days.result only in
    let first = epoch_day-first c.date.result c.date.ensures in
    c.add.ensures ∙ added ∙ omega (arith, signed_arith)
