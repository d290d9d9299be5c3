use Rattle.std.proofs.Common.{◌≡◌, ℕ, ◌+◌, ◌≤◌, arith, ℤ, pos, FitsSigned, w16, w8, to_z, of_z}
use Rattle.std.proofs.Math.IntN.{nat_abs}
use Rattle.std.proofs.lemmas.Int.{to_z-of_z}
use Rattle.std.specs.Int.Signed.{pos-nat_abs}
use Rattle.jiff.specs.Types.{Date}
use Rattle.jiff.specs.Words.{epoch_day}
use Rattle.jiff_core.specs.Calendar.{day_count}
use Rattle.jiff_core.proofs.CalendarLemmas.{days_from_civil-day_count}
use Rattle.jiff_core.proofs.DateLemmas.{civil}
use Rattle.jiff_core.proofs.SignedLemmas.{signed_arith}
use Rattle.usage_meter.proofs.MonthLemmas.{year_from, month_of-date}
use Rattle.usage_meter.proofs.period.month_of.Goals as goal

count_of : (d : Date) (day : ℕ) → epoch_day d ≡ pos day → day_count d.year d.month d.day ≡ day + 4_371_953
count_of d day e = omega (arith, signed_arith, days_from_civil-day_count d.year d.month d.day)

-- what the year of a date from 1970 on comes to
record IsYearFrom (z : ℤ) : Type 0 where
  pub back : to_z w16 (of_z w16 z) ≡ z
  pub number : pos (nat_abs z) ≡ z
  pub late : 1970 ≤ nat_abs z
  pub small : nat_abs z ≤ 9999

year_of : (d : Date) (day : ℕ) → epoch_day d ≡ pos day → IsYearFrom d.year
year_of d day e =
    let late = year_from d.year d.month d.day day (civil d) (count_of d day e) in
    let fits : FitsSigned w16 d.year = omega (arith, signed_arith, d.year_in) in
    let number : pos (nat_abs d.year) ≡ d.year = pos-nat_abs d.year (omega (arith, signed_arith)) in
    record {
      back = to_z-of_z w16 d.year fits;
      number = number;
      late = omega (arith, signed_arith);
      small = omega (arith, signed_arith, d.year_in);
    }

pub overflow_cast-result : goal.overflow_cast-result
overflow_cast-result c =
    let year = year_of c.date_of-date.result c.args.day c.date_of-date.ensures in
    rw (c.year.ensures, year.back) (omega (arith, signed_arith, year.number, year.small))

pub overflow_sub-result : goal.overflow_sub-result
overflow_sub-result c =
    let year = year_of c.date_of-date.result c.args.day c.date_of-date.ensures in
    rw (c.year.ensures, year.back) year.late

pub returns : goal.returns
returns c =
    let d = c.date_of-date.result in
    let year = year_of d c.args.day c.date_of-date.ensures in
    let date = rw (← year.number) at (civil d) in
    let count = rw (← year.number) at (count_of d c.args.day c.date_of-date.ensures) in
    let month = month_of-date (nat_abs d.year) d.month d.day c.args.day date count c.requires in
    let fits : FitsSigned w8 (pos d.month) = omega (arith, signed_arith, d.month_in) in
    rw (c.year.ensures, year.back, c.month.ensures, to_z-of_z w8 (pos d.month) fits) (omega (arith, d.month_in))
