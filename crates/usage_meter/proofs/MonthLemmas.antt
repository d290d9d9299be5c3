-- The months from January 1970 on, and the dates of the calendar, which counts days from the year -10000: 4,371,953 to the first of 1970.
use Rattle.std.proofs.Common.{◌≡◌, sym, subst, refl, ℕ, zero, suc, ◌+◌, ◌-◌, ◌*◌, ◌/◌, ◌%◌, ◌<◌, ◌≤◌, inl, inr, Bool, ℤ, pos, ◌≤ℤ◌, nat_lt, true, false, arith, add-zero, add-one}
use Rattle.std.proofs.lemmas.Bool.{ltb-true, ltb-false, cases_order}
use Rattle.std.proofs.lemmas.Int.{by_lt_z}
use Rattle.jiff_core.specs.Calendar.{days_in_month, day_count, IsCivilDate}
use Rattle.jiff_core.proofs.CalendarLemmas.{day_count-epoch, day_count-next_month, day_count-next_year, day_count-last_of_year, day_count-day, day_count-lt_year}
use Rattle.jiff_core.proofs.SignedLemmas.{signed_arith}
use Rattle.usage_meter.specs.Months.{month_days, month_start, month_from, month_of}

pub month_start-more : (n : ℕ) → month_start (n + 1) ≡ month_start n + month_days n
unfolding month_start
month_start-more n = rw (add-one n)

pub month_start-first : month_start 0 ≡ 0
unfolding month_start
month_start-first = refl

-- the day that begins the year 2100
pub month_start-last : month_start 1560 ≡ 47_482
unfolding month_start
month_start-last = refl

month_start-later : (n k : ℕ) → month_start n ≤ month_start (n + k)
month_start-later n zero = rw (add-zero n) (omega arith)
month_start-later n (suc k) =
    let shorter = month_start-later n k in
    let more = month_start-more (n + k) in
    let next : n + suc k ≡ (n + k) + 1 = omega arith in
    rw next (omega arith)

-- a later month begins later, or on the same day
pub month_start-mono : (n m : ℕ) → n ≤ m → month_start n ≤ month_start m
month_start-mono n m h =
    let gap : n + (m - n) ≡ m = omega arith in
    let P : ℕ → Type 0 = λ k. month_start n ≤ month_start k in
    subst P gap (month_start-later n (m - n))

-- the month holds the day
pub record HoldsDay (n day : ℕ) : Type 0 where
  pub begun : month_start n ≤ day
  pub going : day < month_start (n + 1)

-- of months that hold a day and a later day the second isn't earlier
pub months_in_order : (n m day later : ℕ) → HoldsDay n day → HoldsDay m later → day ≤ later → n ≤ m
months_in_order n m day later h k le =
    elim (cases_order n m) [
      | inl same ↦ omega arith
      | inr (inl lt) ↦ omega arith
      | inr (inr gt) ↦ absurd (omega (arith, h.begun, k.going, month_start-mono (m + 1) n (omega arith)))
    ]

-- no two months hold a day
pub one_month : (n m day : ℕ) → HoldsDay n day → HoldsDay m day → n ≡ m
one_month n m day h k =
    let low = months_in_order n m day day h k (omega arith) in
    let high = months_in_order m n day day k h (omega arith) in
    omega arith

month_from-step : (more n rest day : ℕ) (b : Bool)
    → (b ≡ true → HoldsDay n day) → (b ≡ false → HoldsDay (month_from more (n + 1) (rest - month_days n)) day)
    → HoldsDay (elim b as (λ _. ℕ) [ true ↦ n | false ↦ month_from more (n + 1) (rest - month_days n) ]) day
month_from-step more n rest day true here later = here refl
month_from-step more n rest day false here later = later refl

-- where the month itself holds the day
month_from-here : (n rest : ℕ) → rest < month_days n → HoldsDay n (month_start n + rest)
month_from-here n rest short =
    let next = month_start-more n in
    record { begun = omega arith; going = omega arith }

-- where the month is over by the day
month_start-over : (n rest : ℕ) → month_days n ≤ rest → month_start (n + 1) + (rest - month_days n) ≡ month_start n + rest
month_start-over n rest long = let next = month_start-more n in omega arith

month_start-bound : (more n rest : ℕ) → month_days n ≤ rest → month_start n + rest < month_start (n + suc more)
    → month_start (n + 1) + (rest - month_days n) < month_start (n + 1 + more)
month_start-bound more n rest long h =
    let shift : n + suc more ≡ n + 1 + more = omega arith in
    rw (month_start-over n rest long) (rw shift at h)

-- the walk finds a month that holds the day
month_from-holds : (more n rest : ℕ) → month_start n + rest < month_start (n + more)
    → HoldsDay (month_from more n rest) (month_start n + rest)
unfolding month_from
month_from-holds zero n rest h =
    let none : n + 0 ≡ n = omega arith in
    let never = rw none at h in
    absurd (omega arith)
month_from-holds (suc more) n rest h =
    month_from-step more n rest (month_start n + rest) (nat_lt rest (month_days n))
    (λ here. month_from-here n rest (ltb-true rest (month_days n) here))
    (λ over.
    let long = ltb-false rest (month_days n) over in
    let found = month_from-holds more (n + 1) (rest - month_days n) (month_start-bound more n rest long h) in
    rw month_start-over at found)

-- the month of a day before the year 2100 holds it
pub month_of-holds : (day : ℕ) → day < 47_482 → HoldsDay (month_of day) day
month_of-holds day h =
    let first = month_start-first in
    let last = month_start-last in
    let same : month_start 0 + day ≡ day = omega arith in
    let P : ℕ → Type 0 = λ k. HoldsDay (month_of day) k in
    subst P same (month_from-holds 1560 0 day (omega arith))

-- the first day of the year after
new_year : (y : ℕ) → day_count (pos (y + 1)) 1 1 ≡ day_count (pos y) 12 1 + days_in_month (pos y) 12
new_year y =
    let a = day_count-next_year (pos y) (pos (y + 1)) (omega (arith, signed_arith)) refl in
    let b = day_count-last_of_year (pos y) in
    let c = day_count-day (pos y) 12 1 31 (omega arith) (omega arith) in
    omega arith

-- the days of month m of the y-th year after 1970
month_days-of : (y m : ℕ) → m < 12 → month_days (12 * y + m) ≡ days_in_month (pos (1970 + y)) (m + 1)
month_days-of y m h =
    let a : (12 * y + m) / 12 ≡ y = omega arith in
    let b : (12 * y + m) % 12 ≡ m = omega arith in
    rw (a, b)

-- the first day of each month, as the calendar counts it from the year -10000
month_start-day_count : (y m : ℕ) → m < 12 → month_start (12 * y + m) + 4_371_953 ≡ day_count (pos (1970 + y)) (m + 1) 1
month_start-day_count zero zero h = rw month_start-first (sym day_count-epoch)
month_start-day_count (suc y) zero h =
    let december = month_start-day_count y 11 (omega arith) in
    let more = month_start-more (12 * y + 11) in
    let days = month_days-of y 11 (omega arith) in
    let january = new_year (1970 + y) in
    let e : 12 * suc y + 0 ≡ (12 * y + 11) + 1 = omega arith in
    let f : 1970 + suc y ≡ (1970 + y) + 1 = omega arith in
    rw (e, f) (omega arith)
month_start-day_count y (suc m) h =
    let before = month_start-day_count y m (omega arith) in
    let more = month_start-more (12 * y + m) in
    let days = month_days-of y m (omega arith) in
    let next = day_count-next_month (pos (1970 + y)) (m + 1) (omega arith) in
    let e : 12 * y + suc m ≡ (12 * y + m) + 1 = omega arith in
    let f : suc m + 1 ≡ (m + 1) + 1 = omega arith in
    rw (e, f) (omega arith)

-- a date from 1970 on lies in its month
date_in_month : (y m d day : ℕ) → IsCivilDate (pos (1970 + y)) m d → day_count (pos (1970 + y)) m d ≡ day + 4_371_953
    → HoldsDay (12 * y + (m - 1)) day
date_in_month y m d day date count =
    let start = month_start-day_count y (m - 1) (omega (arith, date.1)) in
    let back : m - 1 + 1 ≡ m = omega (arith, date.1) in
    let start' = rw back at start in
    let days = month_days-of y (m - 1) (omega (arith, date.1)) in
    let days' = rw back at days in
    let first = day_count-day (pos (1970 + y)) m d 1 (omega (arith, date.2)) (omega arith) in
    let more = month_start-more (12 * y + (m - 1)) in
    record { begun = omega (arith, date.2); going = omega (arith, date.2) }

-- a date with a day number from 0 on is in no year before 1970
pub year_from : (z : ℤ) (m d day : ℕ) → IsCivilDate z m d → day_count z m d ≡ day + 4_371_953 → pos 1970 ≤ℤ z
year_from z m d day date count =
    by_lt_z z (pos 1970)
    (λ lt. absurd (omega (arith, signed_arith, day_count-epoch, day_count-lt_year z m d (pos 1970) 1 1 date (omega arith) lt)))
    (λ ge. ge)

-- the month of a date
pub month_of-date : (year m d day : ℕ) → IsCivilDate (pos year) m d → day_count (pos year) m d ≡ day + 4_371_953
    → day < 47_482 → month_of day ≡ 12 * (year - 1970) + (m - 1)
month_of-date year m d day date count h =
    let late = year_from (pos year) m d day date count in
    let from : year ≡ 1970 + (year - 1970) = omega (arith, signed_arith) in
    let date' = rw from at date in
    let count' = rw from at count in
    one_month _ _ day (month_of-holds day h) (date_in_month (year - 1970) m d day date' count')
