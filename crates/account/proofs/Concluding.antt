-- What a call comes to, by the checks that decide it. Assumes nothing.
use Rattle.common.proofs.Words.{◌≡◌, refl, sym, ap, ◌∙◌, true, false, List, ℕ, ◌≤◌, arith, ne_eqb, lt-ltb}
use Rattle.std.specs.Prelude.{Result, Ok, Err, IsErrAnd}
use Rattle.common.specs.{declared.Refusal.Refusal, Refusals.number_of}
use Rattle.common.proofs.Refusals.{number_some}
use Rattle.duedays.specs.DueDays.{list_allowed}
use Rattle.account.specs.{declared.Account.Account, Calls.head_of, Calls.Work, Calls.work, declared.Outcome.Outcome}
use Rattle.account.specs.{Whole.whole, Refusals.last_refusal, Refusals.refusal}
use Rattle.account.specs.Outcomes.{declined, concluded, outcome, OutcomeAs, Concluded}
use Rattle.intake.specs.{declared.Call.Call, Refusals.first_refusal}

-- A refusal that is handed up.
pub declined_as : (n : ℕ) (w : Work) (x : Refusal) (r : Result Outcome Refusal) → IsErrAnd r (λ y. y ≡ x) → number_of x ≡ n → OutcomeAs n w r
declined_as n w x (Ok o) is e = absurd is
declined_as n w x (Err y) is e = record { tells = ap number_of is ∙ e; accepts = tt }

-- 14, then 41, then 1 to 11.
module _ (holidays : List ℕ) (a : Account) (call : Call) where
  pub outcome_not_listed : list_allowed holidays ≡ false → outcome holidays a call ≡ declined a 14
  unfolding outcome refusal
  outcome_not_listed e = rw e

  pub outcome_not_whole : list_allowed holidays ≡ true → whole a ≡ false → outcome holidays a call ≡ declined a 41
  unfolding outcome refusal
  outcome_not_whole listed e = rw (listed, e)

  module _ (listed : list_allowed holidays ≡ true) (w : whole a ≡ true) where
    pub outcome_declined : (n : ℕ) → n ≡ first_refusal (head_of a) call → (n ≡ 0 → ⊥) → outcome holidays a call ≡ declined a n
    unfolding outcome refusal
    outcome_declined n e some = rw (listed, w, ← e, lt-ltb 0 n (omega (arith, some)), ne_eqb n 0 some)

    pub outcome_concluded : first_refusal (head_of a) call ≡ 0 → outcome holidays a call ≡ concluded a (work holidays a call)
    unfolding outcome refusal
    outcome_concluded e = rw (listed, w, e)

    pub refusal_first : (n : ℕ) → n ≡ first_refusal (head_of a) call → 1 ≤ n → n ≡ refusal holidays a call
    unfolding refusal
    refusal_first n e some = rw (listed, w, ← e, lt-ltb 0 n some)

    refusal_last : first_refusal (head_of a) call ≡ 0 → refusal holidays a call ≡ last_refusal (work holidays a call).account.ledger
    unfolding refusal
    refusal_last e = rw (listed, w, e)

    -- What a call comes to that 1 to 11 let pass.
    pub passed_as : first_refusal (head_of a) call ≡ 0 → (r : Result Outcome Refusal) → Concluded (work holidays a call) r
        → OutcomeAs (refusal holidays a call) (work holidays a call) r
    passed_as e r done = record { tells = done.tells ∙ sym (refusal_last e); accepts = done.accepts }

  -- The outcome by what is accepted, and by what declines.
  pub outcome_ok : (o : Outcome) → OutcomeAs (refusal holidays a call) (work holidays a call) (Ok o) → o ≡ outcome holidays a call
  unfolding outcome
  outcome_ok o done = rw (← done.tells) done.accepts

  pub outcome_err : (x : Refusal) → OutcomeAs (refusal holidays a call) (work holidays a call) (Err x)
      → declined a (number_of x) ≡ outcome holidays a call
  unfolding outcome
  outcome_err x done = let some = number_some x in rw (← done.tells, ne_eqb (number_of x) 0 (omega arith)) refl
