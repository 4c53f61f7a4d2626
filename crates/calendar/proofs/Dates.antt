-- Dates and their numbers: the date of a day number has that number, and the number of a date has that date. Assumes nothing.
use Rattle.common.proofs.Words.{◌≡◌, refl, ap, ap₂, ◌∙◌, sym, Bool, true, false, cond, ℕ, zero, suc, ◌+◌, ◌-◌, ◌*◌, ◌/◌, ◌≤◌, ◌<◌, arith, ltb, take}
use Rattle.common.proofs.Words.{ltb-true, ltb-false}
use Rattle.common.proofs.Cases.{by_order}
use Rattle.std.specs.Prelude.{Option, Some, None}
use Rattle.std.specs.Option.{MatchOption, unwrap_or}
use Rattle.lists.specs.Sum.{sum}
use Rattle.lists.proofs.Sum.{front_rises}
use Rattle.calendar.specs.Gregorian.{year_length, month_lengths, month_length, day_after, date_at, sum_below, days_before_year}
use Rattle.calendar.specs.Gregorian.{days_before_month, day_number}
use Rattle.calendar.specs.{declared.Date.Date, Conversions.InCentury, Conversions.IsMonth}
use Rattle.calendar.proofs.Months.{month_least, year_begins, next_month, year_end, month_ends}
use Rattle.calendar.proofs.{Intervals.one_interval, Years.next_year, Years.years_rise, Years.days_before_year_lem}

-- the days of a date's month
abbrev days_of_month : Date → ℕ
days_of_month date = month_length date.year date.month

-- A date of any year from 2000.
pub record Valid (date : Date) : Type 0 where
  pub from_2000 : 2000 ≤ date.year
  pub in_year : IsMonth date.month
  pub from_first : 1 ≤ date.day
  pub in_month : date.day ≤ days_of_month date

-- What one step of the calendar does.
record Stepped (date next : Date) : Type 0 where
  pub valid : Valid next
  pub number : day_number next ≡ suc (day_number date)

-- The three steps.
abbrev tomorrow : Date → Date
tomorrow date = record { year = date.year; month = date.month; day = date.day + 1 }

abbrev month_after : Date → Date
month_after date = record { year = date.year; month = date.month + 1; day = 1 }

abbrev year_after : Date → Date
year_after date = record { year = date.year + 1; month = 1; day = 1 }

module _ (date : Date) (v : Valid date) where
  to_tomorrow : date.day < days_of_month date → Stepped date (tomorrow date)
  unfolding day_number
  to_tomorrow h =
      record {
        valid = record { from_2000 = v.from_2000; in_year = v.in_year; from_first = omega arith; in_month = omega arith };
        number = omega (arith, v.from_first);
      }

  to_next_month : date.day ≡ days_of_month date → date.month < 12 → Stepped date (month_after date)
  unfolding day_number
  to_next_month e h =
      let next : IsMonth (date.month + 1) = omega (arith, v.in_year) in
      let least = month_least date.year (date.month + 1) next in
      record {
        valid = record { from_2000 = v.from_2000; in_year = next; from_first = omega arith; in_month = omega arith };
        number = omega (arith, next_month date.year date.month v.in_year, v.from_first);
      }

  to_next_year : date.day ≡ days_of_month date → date.month ≡ 12 → Stepped date (year_after date)
  unfolding day_number
  to_next_year e h =
      let january : IsMonth 1 = omega arith in
      let least = month_least (date.year + 1) 1 january in
      let ends : days_before_month date.year date.month + date.day ≡ year_length date.year =
      rw (e, h) (sym (next_month date.year 12 (omega arith)) ∙ year_end date.year) in
      record {
        valid = record { from_2000 = omega (arith, v.from_2000); in_year = january; from_first = omega arith; in_month = omega arith };
        number = omega (arith, ends, next_year date.year v.from_2000, year_begins (date.year + 1), v.from_first);
      }

  -- The day after a date is a date, and its number is one more.
  step : Stepped date (day_after date)
  unfolding day_after
  step = go (ltb date.day (days_of_month date)) refl (ltb date.month 12) refl
    where
      month_over : ltb date.day (days_of_month date) ≡ false → date.day ≡ days_of_month date
      month_over e = omega (arith, ltb-false date.day (days_of_month date) e, v.in_month)

      go : (b : Bool) → ltb date.day (days_of_month date) ≡ b → (d : Bool) → ltb date.month 12 ≡ d
          → Stepped date (cond b (tomorrow date) (cond d (month_after date) (year_after date)))
      go true e d f = to_tomorrow (ltb-true _ _ e)
      go false e true f = to_next_month (month_over e) (ltb-true _ _ f)
      go false e false f = to_next_year (month_over e) (omega (arith, ltb-false date.month 12 f, v.in_year))

-- The date of a day number is a date that has this number.
pub date_valid : (number : ℕ) → Valid (date_at number)
unfolding date_at
date_valid zero =
    let least = month_least 2000 1 (omega arith) in
    record { from_2000 = omega arith; in_year = omega arith; from_first = omega arith; in_month = omega arith }
date_valid (suc number) = (step (date_at number) (date_valid number)).valid

pub date_number : (number : ℕ) → day_number (date_at number) ≡ number
unfolding date_at day_number days_before_year sum_below
date_number zero = rw (year_begins 2000)
date_number (suc number) = (step (date_at number) (date_valid number)).number ∙ ap suc (date_number number)

-- the days of a year that are over when a day begins
abbrev pub day_of_year : Date → ℕ
day_of_year date = days_before_month date.year date.month + (date.day - 1)

-- A date lies within its year and within its month.
pub within_year : (date : Date) → Valid date → day_of_year date < year_length date.year
within_year date v = omega (arith, month_ends date.year date.month v.in_year, v.from_first, v.in_month)

-- a number is one of a year's days, and a day of a year one of a month's
pub record InYear (year number : ℕ) : Type 0 where
  pub from_2000 : 2000 ≤ year
  pub begun : days_before_year year ≤ number
  pub not_over : number < days_before_year (year + 1)

pub record InMonth (year month day-of-year : ℕ) : Type 0 where
  pub is_month : IsMonth month
  pub begun : days_before_month year month ≤ day-of-year
  pub not_over : day-of-year < days_before_month year month + month_length year month

-- A number lies in one year only, and a day of a year in one month only.
same_year : {a b n : ℕ} → InYear a n → InYear b n → a ≡ b
same_year {a} {b} {n} ia ib =
    let same = one_interval before years_rise (a - 2000) (b - 2000) n (begun ia) (ends ia) (begun ib) (ends ib) in
    omega (arith, same, ia.from_2000, ib.from_2000)
  where
    before : ℕ → ℕ
    before k = days_before_year (2000 + k)

    begun : {y : ℕ} → InYear y n → before (y - 2000) ≤ n
    begun {y} i = let is : 2000 + (y - 2000) ≡ y = omega (arith, i.from_2000) in rw is i.begun

    ends : {y : ℕ} → InYear y n → n < before (suc (y - 2000))
    ends {y} i = let next : 2000 + suc (y - 2000) ≡ y + 1 = omega (arith, i.from_2000) in rw next i.not_over

same_month : {year a b n : ℕ} → InMonth year a n → InMonth year b n → a ≡ b
unfolding days_before_month
same_month {year} {a} {b} {n} ia ib =
    let same = one_interval before rises (a - 1) (b - 1) n ia.begun (ends ia) ib.begun (ends ib) in
    omega (arith, same, ia.is_month, ib.is_month)
  where
    before : ℕ → ℕ
    before k = sum (take k (month_lengths year))

    rises : (k : ℕ) → before k ≤ before (suc k)
    rises = front_rises (λ n. n) (month_lengths year)

    ends : {m : ℕ} → InMonth year m n → n < before (suc (m - 1))
    ends {m} i =
        let next : m + 1 - 1 ≡ suc (m - 1) = omega (arith, i.is_month) in
        omega (arith, rw next at (next_month year m i.is_month), i.not_over)

-- A date lies in its own year and month.
pub own_year : (date : Date) → Valid date → InYear date.year (day_number date)
unfolding day_number
own_year date v = omega (arith, v.from_2000, within_year date v, next_year date.year v.from_2000)

own_month : (date : Date) → Valid date → InMonth date.year date.month (day_of_year date)
own_month date v = record { is_month = v.in_year; begun = omega arith; not_over = omega (arith, v.from_first, v.in_month) }

-- The year of a day number is the one in which the number lies.
pub year_at : {number year : ℕ} → InYear year number → (date_at number).year ≡ year
year_at {number} w = same_year (rw (date_number number) at (own_year (date_at number) (date_valid number))) w

-- The month of a day number is the one in which its day of the year lies.
pub month_at : {year month day-of-year : ℕ} → 2000 ≤ year → day-of-year < year_length year → InMonth year month day-of-year
    → (date_at (days_before_year year + day-of-year)).month ≡ month
unfolding day_number
month_at {year} {month} {day-of-year} h within w = same_month (rw (own_day, year_is) at (own_month date (date_valid number))) w
  where
    number : ℕ
    number = days_before_year year + day-of-year

    date : Date
    date = date_at number

    year_is : date.year ≡ year
    year_is = year_at (record { from_2000 = h; begun = omega arith; not_over = omega (arith, next_year year h) })

    own_day : day_of_year date ≡ day-of-year
    own_day = omega (arith, date_number number, ap days_before_year year_is)

-- The year of a day number, by the days before it and before the next, each in closed form.
pub year_between : (number year : ℕ) → 2000 ≤ year → year ≤ 2099 → (year - 2000) * 365 + (year - 2000 + 3) / 4 ≤ number
    → number < (year - 1999) * 365 + (year - 1999 + 3) / 4
    → year ≡ (date_at number).year
year_between number year h l low high =
    let begun = days_before_year_lem year h (omega arith) in
    let over = days_before_year_lem (year + 1) (omega arith) (omega arith) in
    sym (year_at (omega (arith, begun, over)))

-- The month of a day of a year, by the days before it and before the next.
pub month_between : (year month day-of-year : ℕ) → InCentury year → IsMonth month → day-of-year < year_length year
    → days_before_month year month ≤ day-of-year
    → day-of-year < days_before_month year (month + 1)
    → month ≡ (date_at (days_before_year year + day-of-year)).month
month_between year month day-of-year w m within low high =
    sym (month_at w.from_2000 within (record { is_month = m; begun = low; not_over = omega (arith, high, next_month year month m) }))

pub december : (year day-of-year : ℕ) → InCentury year → day-of-year < year_length year → days_before_month year 12 ≤ day-of-year
    → 12 ≡ (date_at (days_before_year year + day-of-year)).month
december year day-of-year w within low = month_between year 12 day-of-year w (omega arith) within low (rw (year_end year) within)

-- The first of the months before December that ends after a day is the day's month, and where there is none, December.
pub month_found : (year day-of-year : ℕ) (found : Option ℕ) → InCentury year → day-of-year < year_length year
    → MatchOption found ((k : ℕ) → 1 ≤ k → k < 12 → days_before_month year (k + 1) ≤ day-of-year)
    (λ month. (1 ≤ month) × (month < 12) × (day-of-year < days_before_month year (month + 1))
    × ((k : ℕ) → 1 ≤ k → k < month → days_before_month year (k + 1) ≤ day-of-year))
    → unwrap_or found 12 ≡ (date_at (days_before_year year + day-of-year)).month
month_found year day-of-year None w within none = december year day-of-year w within (none 11 (omega arith) (omega arith))
month_found year day-of-year (Some month) w within is =
    month_between year month day-of-year w (record { from_january = is.0; to_december = omega (arith, is.1) }) within begun is.2
  where
    begun : days_before_month year month ≤ day-of-year
    begun =
        by_order 1 month
        (λ later. let back : month - 1 + 1 ≡ month = omega arith in rw back at (is.3 (month - 1) (omega arith) (omega (arith, is.0))))
        (λ first. let january : month ≡ 1 = omega (arith, is.0) in rw (january, year_begins year) (omega arith))

-- Two dates with one number are one date.
number_once : {a b : Date} → Valid a → Valid b → day_number a ≡ day_number b → a ≡ b
unfolding day_number
number_once {a} {b} va vb e = λ i. record { year = years i; month = months i; day = days i }
  where
    years : a.year ≡ b.year
    years = same_year (own_year a va) (rw (← e) at (own_year b vb))

    days_of_year : day_of_year a ≡ day_of_year b
    days_of_year = omega (arith, ap days_before_year years, e)

    months : a.month ≡ b.month
    months = same_month (own_month a va) (rw (days_of_year, years) (own_month b vb))

    days : a.day ≡ b.day
    days = omega (arith, days_of_year, ap₂ days_before_month years months, va.from_first, vb.from_first)

-- The date of a date's number is the date.
pub number_date : (date : Date) → Valid date → date_at (day_number date) ≡ date
number_date date v = number_once (date_valid (day_number date)) v (date_number (day_number date))
