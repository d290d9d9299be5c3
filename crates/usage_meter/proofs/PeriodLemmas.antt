-- Which period holds a moment.
use Rattle.std.proofs.Common.{◌≡◌, sym, subst, ℕ, ◌+◌, ◌/◌, ◌<◌, ◌↔◌, IsTrue, Some, pos, arith, eq-eqb}
use Rattle.std.proofs.lemmas.Bool.{eqb-true}
use Rattle.jiff_core.specs.Calendar.{day_count}
use Rattle.jiff_core.proofs.CalendarLemmas.{days_from_civil-day_count, weekday_number-parts}
use Rattle.jiff_core.proofs.SignedLemmas.{signed_arith}
use Rattle.usage_meter.specs.declared.period.TheConstants.{YEAR_2100}
use Rattle.usage_meter.specs.declared.period.Period.{Period}
use Rattle.usage_meter.specs.declared.period.PeriodKind.{PeriodKind}
use Rattle.usage_meter.specs.declared.period.PeriodKind.TheVariants.{Day, Week, Month}
use Rattle.usage_meter.specs.Months.{month_of}
use Rattle.usage_meter.specs.Periods.{number_at, period_at, is_standing, nth_begin, Holds, LiesInOne, MondayBeginsWeek, MonthIsOfDate, NumbersNeverFall}
use Rattle.usage_meter.proofs.MonthLemmas.{HoldsDay, month_of-holds, one_month, months_in_order, month_of-date}

-- a moment lies in the period of its number
pub holds_own : (kind : PeriodKind) (t : ℕ) → t < YEAR_2100 → Holds (period_at kind t) t
holds_own Day t h = record { begun = omega arith; going = omega arith }
holds_own Week t h = record { begun = omega arith; going = omega arith }
holds_own Month t h =
    let month = month_of-holds (t / 86_400_000) (omega arith) in
    record { begun = omega (arith, month.begun); going = omega (arith, month.going) }

month_holds : (n t : ℕ) → Holds record { kind = Month; number = n } t → HoldsDay n (t / 86_400_000)
month_holds n t h = record { begun = omega (arith, h.begun); going = omega (arith, h.going) }

-- and in no other of that kind
pub holds_one : (kind : PeriodKind) (n t : ℕ) → t < YEAR_2100 → Holds record { kind = kind; number = n } t
    → n ≡ number_at kind t
holds_one Day n t late h = omega (arith, h.begun, h.going)
holds_one Week n t late h = omega (arith, h.begun, h.going)
holds_one Month n t late h =
    one_month n (month_of (t / 86_400_000)) (t / 86_400_000) (month_holds n t h) (month_of-holds (t / 86_400_000) (omega arith))

pub lies_in_one : LiesInOne
lies_in_one kind t h = (holds_own kind t h, λ n. holds_one kind n t h)

-- a later moment's number is no smaller
pub numbers_in_order : NumbersNeverFall
numbers_in_order Day early late h end = omega arith
numbers_in_order Week early late h end = omega arith
numbers_in_order Month early late h end =
    let first = month_of-holds (early / 86_400_000) (omega arith) in
    let second = month_of-holds (late / 86_400_000) (omega arith) in
    months_in_order _ _ _ _ first second (omega arith)

-- a month's number, by the date
pub number-date : MonthIsOfDate
number-date year month day t date number h =
    let days = days_from_civil-day_count (pos year) month day in
    let count : day_count (pos year) month day ≡ t / 86_400_000 + 4_371_953 = omega (arith, signed_arith) in
    month_of-date year month day (t / 86_400_000) date count (omega arith)

-- the day on which a week begins
pub weekday_number-week : MondayBeginsWeek
weekday_number-week n h =
    let parts = weekday_number-parts (pos (nth_begin Week n / 86_400_000)) in
    omega (arith, signed_arith)

-- a period stands at the moments that it holds
pub is_standing-holds : (p : Period) (t : ℕ) → t < YEAR_2100 → IsTrue (is_standing (Some p) t) ↔ Holds p t
is_standing-holds p t h =
    let P : ℕ → Type 0 = λ n. Holds record { kind = p.kind; number = n } t in (
      λ yes. subst P (eqb-true (number_at p.kind t) p.number yes) (holds_own p.kind t h),
      λ held. eq-eqb (number_at p.kind t) p.number (sym (holds_one p.kind p.number t h held)),
    )
