-- Laws of the due day, for every list of closed days, whether it keeps to its bounds or not. Assumes nothing.
use Rattle.common.proofs.Words.{◌≡◌, refl, ◌⊎◌, inl, inr, ⊎_elim, true, false, true≢false, cond, List, [], ◌∷◌, ℕ, zero, suc, ◌+◌, ◌≤◌, ◌<◌}
use Rattle.common.proofs.Words.{sym, ◌∙◌, arith, length, eqb, eqb-true, ne_eqb}
use Rattle.lists.specs.Sum.{total}
use Rattle.common.proofs.Cases.{by_test, by_order}
use Rattle.duedays.specs.Limits.{last_due_day, term, last_call_day}
use Rattle.duedays.specs.DueDays.{listed, list_allowed, first_open, due_day}
use Rattle.duedays.proofs.Lists.{allowed}

-- How often a day stands in a list, and how often any of so many days in a row does.
abbrev times : List ℕ → ℕ → ℕ
times holidays day = total (λ holiday. cond (eqb holiday day) 1 0) holidays

abbrev hits : ℕ → ℕ → List ℕ → ℕ
hits zero day holidays = 0
hits (suc n) day holidays = times holidays day + hits n (day + 1) holidays

-- An entry is one day at most, so entries are at most as many days.
hits_none : (n day : ℕ) → hits n day [] ≡ 0
hits_none zero day = refl
hits_none (suc n) day = omega (arith, hits_none n (day + 1))

abbrev one : ℕ → ℕ → ℕ → ℕ
one zero day holiday = 0
one (suc n) day holiday = cond (eqb holiday day) 1 0 + one n (day + 1) holiday

one_before : (n day holiday : ℕ) → holiday < day → one n day holiday ≡ 0
one_before zero day holiday h = refl
one_before (suc n) day holiday h =
    rw (ne_eqb holiday day (λ e. omega arith)) (omega (arith, one_before n (day + 1) holiday (omega arith)))

one_most : (n day holiday : ℕ) → one n day holiday ≤ 1
one_most zero day holiday = omega arith
one_most (suc n) day holiday =
    let later = one_most n (day + 1) holiday in
    by_test (eqb holiday day) (λ e. rw e (omega (arith, one_before n (day + 1) holiday (omega (arith, eqb-true holiday day e)))))
    (λ e. rw e (omega (arith, later)))

hits_next : (n day holiday : ℕ) (holidays : List ℕ) → hits n day (holiday ∷ holidays) ≡ one n day holiday + hits n day holidays
hits_next zero day holiday holidays = refl
hits_next (suc n) day holiday holidays = omega (arith, hits_next n (day + 1) holiday holidays)

hits_most : (n day : ℕ) (holidays : List ℕ) → hits n day holidays ≤ length holidays
hits_most n day [] = omega (arith, hits_none n day)
hits_most n day (holiday ∷ holidays) =
    omega (arith, hits_next n day holiday holidays, one_most n day holiday, hits_most n day holidays)

-- A listed day stands in the list.
times_listed : (holidays : List ℕ) (day : ℕ) → listed holidays day ≡ true → 1 ≤ times holidays day
times_listed [] day e = absurd (true≢false (sym e))
times_listed (holiday ∷ holidays) day e =
    let later = times_listed holidays day in
    by_test (eqb holiday day) (λ is. rw is (omega arith)) (λ is. rw is (omega (arith, later (rw is at e))))

-- So many days in a row are listed.
abbrev AllListed : List ℕ → ℕ → ℕ → Type 0
AllListed holidays from to = (day : ℕ) → from ≤ day → day < to → listed holidays day ≡ true

listed_hits : (n day : ℕ) (holidays : List ℕ) → AllListed holidays day (day + n) → n ≤ hits n day holidays
listed_hits zero day holidays all = omega arith
listed_hits (suc n) day holidays all =
    let later = listed_hits n (day + 1) holidays (λ d l h. all d (omega arith) (omega arith)) in
    omega (arith, later, times_listed holidays day (all day (omega arith) (omega arith)))

-- No more days in a row are listed than the list has entries.
listed_most : (n day : ℕ) (holidays : List ℕ) → AllListed holidays day (day + n) → n ≤ length holidays
listed_most n day holidays all = omega (arith, listed_hits n day holidays all, hits_most n day holidays)

-- The first that isn't listed, of so many.
record First (holidays : List ℕ) (n day first : ℕ) : Type 0 where
  from : day ≤ first
  within : first ≤ day + n
  passes : AllListed holidays day first
  open_or_end : (listed holidays first ≡ false) ⊎ (first ≡ day + n)

first_is : (n : ℕ) (holidays : List ℕ) (day : ℕ) → First holidays n day (first_open n holidays day)
first_is zero holidays day =
    record { from = omega arith; within = omega arith; passes = λ d l h. absurd (omega arith); open_or_end = inr (omega arith) }
first_is (suc n) holidays day =
    let later = first_is n holidays (day + 1) in
    by_test (listed holidays day)
    (λ e. rw e
    (record {
      from = omega (arith, later.from);
      within = omega (arith, later.within);
      passes = λ d l h. by_order day d (λ after. later.passes d (omega arith) h) (λ same. let is : d ≡ day = omega arith in rw is e);
      open_or_end = ⊎_elim inl (λ end. inr (omega arith)) later.open_or_end;
    }))
    (λ e. rw e (record { from = omega arith; within = omega arith; passes = λ d l h. absurd (omega arith); open_or_end = inl e }))

module _ (holidays : List ℕ) (day : ℕ) where
  abbrev first : First holidays (length holidays) (day + term) (first_open (length holidays) holidays (day + term))
  first = first_is (length holidays) holidays (day + term)

  -- It is not before day + 30.
  pub due_from : day + term ≤ due_day holidays day
  unfolding due_day
  due_from = first.from

  -- Every day from day + 30 up to it is listed.
  pub due_passes : (d : ℕ) → day + term ≤ d → d < due_day holidays day → listed holidays d ≡ true
  unfolding due_day
  due_passes = first.passes

  -- It is at most day + 30 + the length of the list.
  pub due_within : due_day holidays day ≤ day + term + length holidays
  unfolding due_day
  due_within = first.within

  -- It isn't listed.
  pub due_open : listed holidays (due_day holidays day) ≡ false
  unfolding due_day
  due_open =
      let due = first_open (length holidays) holidays (day + term) in
      ⊎_elim (λ (open-day : listed holidays due ≡ false). open-day)
      (λ (end : due ≡ day + term + length holidays).
      by_test (listed holidays due)
      (λ e.
      let all : AllListed holidays (day + term) (day + term + suc (length holidays)) =
      λ d l h. by_order d due (λ below. first.passes d l below) (λ same. let is : d ≡ due = omega arith in rw is e) in
      let never : ⊥ = omega (arith, listed_most (suc (length holidays)) (day + term) holidays all) in
      absurd never)
      (λ e. e))
      first.open_or_end

  -- No other day is so.
  pub due_only : (d : ℕ) → day + term ≤ d → listed holidays d ≡ false
      → ((e : ℕ) → day + term ≤ e → e < d → listed holidays e ≡ true) → d ≡ due_day holidays day
  due_only d l is_open passes =
      let due = due_day holidays day in
      by_order d due (λ below. absurd (true≢false (sym (due_passes d l below) ∙ is_open)))
      (λ up.
      by_order due d (λ below. absurd (true≢false (sym (passes due due_from below) ∙ due_open))) (λ down. omega arith))

  -- Every due day is one of the calendar.
  pub due_most : list_allowed holidays ≡ true → day ≤ last_call_day → due_day holidays day ≤ last_due_day
  due_most e h = omega (arith, due_within, (allowed e).few)

-- The empty list gives day + 30.
pub due_of_none : (day : ℕ) → due_day [] day ≡ day + term
unfolding due_day
due_of_none day = refl
