-- The months of the Gregorian calendar. Month 0 is January 1970, and day 0 is 1 January 1970.
use Rattle.std.specs.Prelude.{ℕ, zero, suc, ◌+◌, ◌-◌, ◌/◌, ◌%◌, nat_lt, true, false, pos}
use Rattle.jiff_core.specs.Calendar.{days_in_month}

-- the days of month n
abbrev pub month_days : ℕ → ℕ
month_days n = days_in_month (pos (1970 + n / 12)) (n % 12 + 1)

-- the day on which month n begins
unfoldable pub month_start : ℕ → ℕ
month_start zero = 0
month_start (suc n) = month_start n + month_days n

-- the month that holds the day `rest` days after month n began, if that is one of this many months from n on
unfoldable pub month_from : ℕ → ℕ → ℕ → ℕ
month_from zero n rest = n
month_from (suc more) n rest =
    elim (nat_lt rest (month_days n)) [ true ↦ n | false ↦ month_from more (n + 1) (rest - month_days n) ]

-- the month that holds the day, of the 1,560 months before the year 2100
abbrev pub month_of : ℕ → ℕ
month_of day = month_from 1560 0 day
