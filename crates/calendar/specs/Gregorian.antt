-- The Gregorian calendar by its rule, and the count of days from 1 January 2000.
use Rattle.std.specs.Prelude.{Bool, cond, not, ◌&&◌, ◌||◌, List, [], ◌∷◌, ℕ, zero, suc, ◌+◌, ◌-◌, ◌%◌}
use lib.{Dec.ltb, Dec.eqb, ListN.get_or, ListN.take}
use Rattle.lists.specs.Sum.{sum}
use Rattle.calendar.specs.declared.Date.{Date}

abbrev pub divides : ℕ → ℕ → Bool
divides d n = eqb (n % d) 0

-- Every fourth year is a leap year, but of the hundredth years only every fourth.
unfoldable pub leap_year : ℕ → Bool
leap_year year = divides 4 year && (not (divides 100 year) || divides 400 year)

unfoldable pub year_length : ℕ → ℕ
year_length year = cond (leap_year year) 366 365

-- The lengths of the months, January first.
unfoldable pub month_lengths : ℕ → List ℕ
month_lengths year = 31 ∷ cond (leap_year year) 29 28 ∷ 31 ∷ 30 ∷ 31 ∷ 30 ∷ 31 ∷ 31 ∷ 30 ∷ 31 ∷ 30 ∷ 31 ∷ []

unfoldable pub month_length : ℕ → ℕ → ℕ
month_length year month = get_or (month_lengths year) (month - 1) 0

-- The day after a date.
unfoldable pub day_after : Date → Date
day_after date =
    cond (ltb date.day (month_length date.year date.month))
    (record { year = date.year; month = date.month; day = date.day + 1 })
    (cond (ltb date.month 12)
    (record { year = date.year; month = date.month + 1; day = 1 })
    (record { year = date.year + 1; month = 1; day = 1 }))

-- Day 0 is 1 January 2000, and each later day is the one after the day before it.
unfoldable pub date_at : ℕ → Date
date_at zero = record { year = 2000; month = 1; day = 1 }
date_at (suc number) = day_after (date_at number)

-- f 0 + f 1 + .. of the numbers below n
unfoldable pub sum_below : ℕ → (ℕ → ℕ) → ℕ
sum_below zero f = 0
sum_below (suc n) f = sum_below n f + f n

-- The days of the years from 2000 that are over when a year begins.
unfoldable pub days_before_year : ℕ → ℕ
days_before_year year = sum_below (year - 2000) (λ k. year_length (2000 + k))

-- The days of the months of a year that are over when a month begins.
unfoldable pub days_before_month : ℕ → ℕ → ℕ
days_before_month year month = sum (take (month - 1) (month_lengths year))

-- The number of a date: the days of the years, of the months and of the month that are over when its day begins.
unfoldable pub day_number : Date → ℕ
day_number date = days_before_year date.year + days_before_month date.year date.month + (date.day - 1)
