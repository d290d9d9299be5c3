-- The numbers of days, weeks and months in UTC, and the moments that each holds. Moments are milliseconds since 1970.
use Rattle.std.specs.Prelude.{◌≡◌, ℕ, ◌+◌, ◌-◌, ◌*◌, ◌/◌, ◌<◌, ◌≤◌, ◌==◌, Bool, false, Option, Some, None, pos, ⊤}
use Rattle.jiff_core.specs.Calendar.{IsCivilDate, days_from_civil, weekday_number}
use Rattle.usage_meter.specs.declared.period.TheConstants.{YEAR_2100}
use Rattle.usage_meter.specs.declared.period.Period.{Period}
use Rattle.usage_meter.specs.declared.period.PeriodKind.{PeriodKind}
use Rattle.usage_meter.specs.declared.period.PeriodKind.TheVariants.{Day, Week, Month}
use Rattle.usage_meter.specs.Months.{month_start, month_of}

-- the number of the period that holds the moment; day 0 was a Thursday, three days after a Monday
abbrev pub number_at : PeriodKind → ℕ → ℕ
number_at Day t = t / 86_400_000
number_at Week t = (t / 86_400_000 + 3) / 7
number_at Month t = month_of (t / 86_400_000)

abbrev pub period_at : PeriodKind → ℕ → Period
period_at kind t = record { kind = kind; number = number_at kind t }

-- whether there is a period, and it still stands at t
abbrev pub is_standing : Option Period → ℕ → Bool
is_standing None t = false
is_standing (Some p) t = number_at p.kind t == p.number

-- the moment at which period n of the kind begins; for week 0, which began in 1969, the beginning of 1970
abbrev pub nth_begin : PeriodKind → ℕ → ℕ
nth_begin Day n = 86_400_000 * n
nth_begin Week n = 86_400_000 * (7 * n - 3)
nth_begin Month n = 86_400_000 * month_start n

abbrev pub begin_of : Period → ℕ
begin_of p = nth_begin p.kind p.number

-- the moment at which the next one begins
abbrev pub end_of : Period → ℕ
end_of p = nth_begin p.kind (p.number + 1)

-- the moment lies in the period
pub record Holds (p : Period) (t : ℕ) : Type 0 where
  pub begun : begin_of p ≤ t
  pub going : t < end_of p

-- the period, if there is one, is over
abbrev pub HasEnded : Option Period → ℕ → Type 0
HasEnded None t = ⊤
HasEnded (Some p) t = end_of p ≤ t

-- LAW: as moments go on the number never falls
abbrev pub NumbersNeverFall : Type 0
NumbersNeverFall =
    (kind : PeriodKind) (early late : ℕ) → early ≤ late → late < YEAR_2100
    → number_at kind early ≤ number_at kind late

-- LAW: every moment lies in the period of its number, and in no other of that kind
abbrev pub LiesInOne : Type 0
LiesInOne =
    (kind : PeriodKind) (t : ℕ) → t < YEAR_2100
    → Holds (period_at kind t) t
    × ((n : ℕ) → Holds record { kind = kind; number = n } t → n ≡ number_at kind t)

-- LAW: a week begins on Monday, which is day 0 of the calendar's week
abbrev pub MondayBeginsWeek : Type 0
MondayBeginsWeek = (n : ℕ) → 0 < n → weekday_number (pos (nth_begin Week n / 86_400_000)) ≡ 0

-- LAW: the number of a month counts 12 for each year since 1970, and 1 for each month before it in its year
abbrev pub MonthIsOfDate : Type 0
MonthIsOfDate =
    (year month day t : ℕ) → IsCivilDate (pos year) month day
    → days_from_civil (pos year) month day ≡ pos (t / 86_400_000) → t < YEAR_2100
    → number_at Month t ≡ 12 * (year - 1970) + (month - 1)
