-- The two conversions undo each other on the whole range. Assumes nothing.
use Rattle.common.proofs.Words.{◌≡◌, true, ◌&&◌, and-eq-true_iff, ℕ, suc, ◌+◌, ◌-◌, ◌≤◌, ◌<◌, lt_of_not-le, arith}
use Rattle.common.specs.Range.{within}
use Rattle.std.specs.Prelude.{Some}
use Rattle.common.proofs.Tests.{within_true, within_intro}
use Rattle.calendar.specs.Gregorian.{year_length, month_length, date_at, days_before_year, day_number}
use Rattle.calendar.specs.Conversions.{first_number, last_number, is_date, to_date, from_date, InCentury, IsMonth}
use Rattle.calendar.specs.declared.Date.{Date}
use Rattle.calendar.proofs.Dates.{Valid, day_of_year, within_year, date_valid, date_number, number_date, own_year}
use Rattle.calendar.proofs.{Intervals.never_falls, Years.years_rise, Years.days_before_year_lem}

-- What the test of a date says.
pub record Tested (date : Date) : Type 0 where
  pub valid : Valid date
  pub to_2099 : date.year ≤ 2099

pub tested : (date : Date) → is_date date ≡ true → Tested date
unfolding is_date
tested date e =
    let length = month_length date.year date.month in
    let outer = (and-eq-true_iff (within 2000 2099 date.year && within 1 12 date.month) (within 1 length date.day)).0 e in
    let inner = (and-eq-true_iff (within 2000 2099 date.year) (within 1 12 date.month)).0 outer.0 in
    let years = within_true 2000 2099 date.year inner.0 in
    let months = within_true 1 12 date.month inner.1 in
    let days = within_true 1 length date.day outer.1 in
    omega arith

pub passes : (date : Date) → Tested date → is_date date ≡ true
unfolding is_date
passes date t =
    rw (
      within_intro 2000 2099 date.year t.valid.from_2000 t.to_2099,
      within_intro 1 12 date.month t.valid.in_year.from_january t.valid.in_year.to_december,
      within_intro 1 (month_length date.year date.month) date.day t.valid.from_first t.valid.in_month,
    )

-- The years to 2099 hold the day numbers to the last.
century_ends : days_before_year 2100 ≡ suc last_number
century_ends = days_before_year_lem 2100 (omega arith) (omega arith)

years_mono : (a b : ℕ) → 2000 ≤ a → a ≤ b → days_before_year a ≤ days_before_year b
years_mono a b h l =
    let a-is : 2000 + (a - 2000) ≡ a = omega arith in
    let b-is : 2000 + (b - 2000) ≡ b = omega arith in
    rw (a-is, b-is) at (never_falls (λ k. days_before_year (2000 + k)) years_rise (a - 2000) (b - 2000) (omega arith))

pub number_within : (date : Date) → Tested date → day_number date ≤ last_number
number_within date t =
    let later = years_mono (date.year + 1) 2100 (omega (arith, t.valid.from_2000)) (omega (arith, t.to_2099)) in
    omega (arith, (own_year date t.valid).not_over, later, century_ends)

pub date_tested : (number : ℕ) → number ≤ last_number → Tested (date_at number)
date_tested number h =
    record { valid = date_valid number; to_2099 = omega (arith, lt_of_not-le before_2100) }
  where
    before_2100 : 2100 ≤ (date_at number).year → ⊥
    before_2100 l =
        let own = own_year (date_at number) (date_valid number) in
        omega (arith, years_mono 2100 (date_at number).year (omega arith) l, century_ends, own.begun, date_number number)

-- The parts of a day number: the days before its year, before its month and before its day.
pub record Parts (number : ℕ) (date : Date) : Type 0 where
  pub in_century : InCentury date.year
  pub is_month : IsMonth date.month
  pub from_first : 1 ≤ date.day
  pub whole : number ≡ days_before_year date.year + day_of_year date
  pub in_year : day_of_year date < year_length date.year

pub date_parts : (number : ℕ) → number ≤ last_number → Parts number (date_at number)
unfolding day_number
date_parts number h =
    let t = date_tested number h in
    record {
      in_century = omega (arith, t);
      is_month = t.valid.in_year;
      from_first = t.valid.from_first;
      whole = omega (arith, date_number number);
      in_year = within_year (date_at number) t.valid;
    }

-- From a number to its date and back.
pub from_to : (number : ℕ) → number ≤ last_number → from_date (date_at number) ≡ Some (record { number = number })
unfolding from_date
from_to number h = rw (passes (date_at number) (date_tested number h), date_number number)

-- From a date to its number and back.
pub to_from : (date : Date) → is_date date ≡ true → to_date (day_number date) ≡ Some date
unfolding to_date
to_from date e =
    let t = tested date e in
    rw (within_intro first_number last_number (day_number date) (omega arith) (number_within date t), number_date date t.valid)
