-- The years, of any number and from 2000 to 2099. Assumes nothing.
use Rattle.common.proofs.Words.{◌≡◌, refl, ap, Bool, true, false, cond, not, ◌||◌, and-true, or-true, ℕ, zero, suc, ◌+◌, ◌-◌, ◌*◌, ◌/◌, ◌%◌}
use Rattle.common.proofs.Words.{◌≤◌, arith, eqb-true, eqb-false, eq-eqb}
use Rattle.calendar.specs.Gregorian.{divides, leap_year, year_length, sum_below, days_before_year}
use Rattle.calendar.specs.Conversions.{InCentury}

-- from 2000 to 2099 every fourth year is a leap year: the one hundredth year among them is a fourth one
pub leap_in_century : (year : ℕ) → InCentury year → leap_year year ≡ divides 4 year
unfolding leap_year
leap_in_century year w = rw (exempt (divides 100 year) refl) (and-true (divides 4 year))
  where
    exempt : (b : Bool) → divides 100 year ≡ b → (not (divides 100 year) || divides 400 year) ≡ true
    exempt true e =
        let first : year % 400 ≡ 0 = omega (arith, eqb-true (year % 100) 0 e) in
        rw (eq-eqb (year % 400) 0 first) (or-true (not (divides 100 year)))
    exempt false e = rw e refl

year_length_lem : (year : ℕ) → InCentury year → year_length year ≡ cond (divides 4 year) 366 365
unfolding year_length
year_length_lem year w = rw (leap_in_century year w)

-- a year's days end where the next year begins
pub next_year : (year : ℕ) → 2000 ≤ year → days_before_year (year + 1) ≡ days_before_year year + year_length year
unfolding days_before_year sum_below
next_year year h =
    let here : year + 1 - 2000 ≡ suc (year - 2000) = omega arith in
    let back : 2000 + (year - 2000) ≡ year = omega arith in
    rw here (ap (λ y. sum_below (year - 2000) (λ k. year_length (2000 + k)) + year_length y) back)

-- the days before the year 2000 + k
abbrev years_before : ℕ → ℕ
years_before k = sum_below k (λ j. year_length (2000 + j))

years_closed : (k : ℕ) → k ≤ 100 → years_before k ≡ k * 365 + (k + 3) / 4
unfolding sum_below
years_closed zero h = refl
years_closed (suc k) h = go (divides 4 (2000 + k)) refl (years_closed k (omega arith))
  where
    length_is : (b : Bool) → divides 4 (2000 + k) ≡ b → year_length (2000 + k) ≡ cond b 366 365
    length_is b e = rw (year_length_lem (2000 + k) (omega arith), e)

    go : (b : Bool) → divides 4 (2000 + k) ≡ b → years_before k ≡ k * 365 + (k + 3) / 4
        → years_before k + year_length (2000 + k) ≡ suc k * 365 + (suc k + 3) / 4
    go true e ih = omega (arith, length_is true e, eqb-true ((2000 + k) % 4) 0 e)
    go false e ih = omega (arith, length_is false e, eqb-false ((2000 + k) % 4) 0 e)

pub days_before_year_lem : (year : ℕ) → 2000 ≤ year → year ≤ 2100 → days_before_year year ≡ (year - 2000) * 365 + (year - 2000 + 3) / 4
unfolding days_before_year
days_before_year_lem year l h = years_closed (year - 2000) (omega arith)

-- the days before the year 2000 + k rise with k
pub years_rise : (k : ℕ) → days_before_year (2000 + k) ≤ days_before_year (2000 + suc k)
years_rise k =
    let there : 2000 + suc k ≡ 2000 + k + 1 = omega arith in
    rw there (omega (arith, next_year (2000 + k) (omega arith)))
