-- The months of a year, of any year. Assumes nothing.
use Rattle.common.proofs.Words.{◌≡◌, refl, Bool, true, false, cond, List, [], ◌∷◌, ℕ, suc, ◌+◌, ◌-◌, ◌≤◌, ◌<◌, arith, leb, length, take}
use Rattle.common.proofs.Words.{take_all, leb-true}
use native.Mathlib.Nat.{le_of_eq}
use Rattle.lists.specs.{Every.every, Sum.sum}
use Rattle.lists.proofs.{Every.every_at, Every.every_true, Sum.total_suc, Sum.front_rises}
use Rattle.calendar.specs.Gregorian.{leap_year, year_length, month_lengths, month_length, days_before_month}
use Rattle.calendar.specs.Conversions.{IsMonth}
use Rattle.calendar.proofs.Intervals.{never_falls}

-- the lengths of the months of a leap year, and of a common one
abbrev pub lengths : Bool → List ℕ
lengths leap = 31 ∷ cond leap 29 28 ∷ 31 ∷ 30 ∷ 31 ∷ 30 ∷ 31 ∷ 31 ∷ 30 ∷ 31 ∷ 30 ∷ 31 ∷ []

month_count : (year : ℕ) → length (month_lengths year) ≡ 12
unfolding month_lengths
month_count year = refl

each_month : (year : ℕ) → every (leb 28) (month_lengths year) ≡ true
unfolding month_lengths
each_month year = go (leap_year year)
  where
    go : (leap : Bool) → every (leb 28) (lengths leap) ≡ true
    go true = refl
    go false = refl

pub month_least : (year month : ℕ) → IsMonth month → 28 ≤ month_length year month
unfolding month_length
month_least year month w =
    let each = every_true (leb 28) (month_lengths year) (each_month year) in
    leb-true 28 _ (every_at (λ n. leb 28 n ≡ true) (month_lengths year) (month - 1) 0 (rw (month_count year) (omega arith)) each)

-- the months of a year make up the year
months_fill : (year : ℕ) → sum (month_lengths year) ≡ year_length year
unfolding month_lengths year_length
months_fill year = go (leap_year year)
  where
    go : (leap : Bool) → sum (lengths leap) ≡ cond leap 366 365
    go true = refl
    go false = refl

-- a month begins where the month before it ends
pub next_month : (year month : ℕ) → IsMonth month → days_before_month year (month + 1) ≡ days_before_month year month + month_length year month
unfolding days_before_month month_length
next_month year month w =
    let there : month + 1 - 1 ≡ suc (month - 1) = omega arith in
    let within : month - 1 < length (month_lengths year) = rw (month_count year) (omega arith) in
    rw (there, total_suc (λ n. n) (month_lengths year) (month - 1) 0 within)

-- no month of a year is over where it begins
pub year_begins : (year : ℕ) → days_before_month year 1 ≡ 0
unfolding days_before_month
year_begins year = refl

-- the last month ends with the year
pub year_end : (year : ℕ) → days_before_month year 13 ≡ year_length year
unfolding days_before_month
year_end year = rw (take_all 12 (month_lengths year) (le_of_eq (month_count year))) (months_fill year)

-- a month's days end within the year
pub month_ends : (year month : ℕ) → IsMonth month → days_before_month year month + month_length year month ≤ year_length year
unfolding days_before_month
month_ends year month w =
    let here : month + 1 - 1 ≡ month = omega arith in
    let rises = never_falls (λ k. sum (take k (month_lengths year))) (front_rises (λ n. n) (month_lengths year)) month 12 w.to_december in
    omega (arith, rises, rw here at (next_month year month w), year_end year)
