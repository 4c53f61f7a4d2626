-- The rule of the table of days before each month, by one computed test over the table. Assumes nothing.
use Rattle.std.proofs.lemmas.Bool.{agree_below_at}
use Rattle.common.proofs.Words.{◌≡◌, refl, Bool, true, false, cond, ◌&&◌, List, [], ◌∷◌, ℕ, ◌+◌, ◌-◌, ◌≤◌, arith, ltb, eqb, eqb-true, get_or, take}
use Rattle.lists.specs.Sum.{sum}
use Rattle.calendar.specs.Gregorian.{leap_year, month_lengths, days_before_month}
use Rattle.calendar.proofs.Months.{lengths}

abbrev table : List ℕ
table = 0 ∷ 31 ∷ 59 ∷ 90 ∷ 120 ∷ 151 ∷ 181 ∷ 212 ∷ 243 ∷ 273 ∷ 304 ∷ 334 ∷ 365 ∷ []

-- the days before a month, by the table: one more after February of a leap year
abbrev pub tabled : Bool → ℕ → ℕ
tabled leap k = get_or table k 0 + cond (ltb 1 k && leap) 1 0

pub by_table : (year month : ℕ) → month ≤ 13 → days_before_month year month ≡ tabled (leap_year year) (month - 1)
unfolding days_before_month month_lengths
by_table year month h = eqb-true _ _ (passes (leap_year year))
  where
    test : Bool → ℕ → Bool
    test leap k = eqb (sum (take k (lengths leap))) (tabled leap k)

    passes : (leap : Bool) → test leap (month - 1) ≡ true
    passes true = agree_below_at (test true) (λ _. true) 13 (month - 1) refl (omega arith)
    passes false = agree_below_at (test false) (λ _. true) 13 (month - 1) refl (omega arith)
