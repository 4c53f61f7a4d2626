-- What an accepted call has passed. Assumes nothing.
use Rattle.common.proofs.Words.{◌≡◌, refl, Bool, true, false, List, ℕ, ◌≤◌, arith, ltb, leb-true, ltb-true, ltb-false}
use Rattle.duedays.specs.DueDays.{list_allowed}
use Rattle.ledger.specs.Limits.{capacity, most_credit}
use Rattle.intake.specs.{declared.Call.Call, Refusals.first_refusal}
use Rattle.intake.proofs.Passed.{passes}
use Rattle.account.specs.{declared.Account.Account, Calls.head_of, Calls.work, Whole.whole}
use Rattle.account.specs.Refusals.{last_refusal, or_else, refusal}

or_else_lem : (number others : ℕ) → or_else number others ≡ 0 → (number ≡ 0) × (others ≡ 0)
or_else_lem number others e = go (ltb 0 number) refl
  where
    go : (b : Bool) → ltb 0 number ≡ b → (number ≡ 0) × (others ≡ 0)
    go true t = let z : number ≡ 0 = rw t at e in let never : ⊥ = omega (arith, ltb-true 0 number t) in absurd never
    go false t = (omega (arith, ltb-false 0 number t), rw t at e)

-- 14, 41 and 12 and 13, of any call.
pub record Accepted (holidays : List ℕ) (a : Account) (call : Call) : Type 0 where
  pub listed : list_allowed holidays ≡ true
  pub is_whole : whole a ≡ true
  pub first_passed : first_refusal (head_of a) call ≡ 0
  pub items_most : (work holidays a call).account.ledger.count ≤ capacity
  pub credit_most : (work holidays a call).account.ledger.credit ≤ most_credit

pub accepted : (holidays : List ℕ) (a : Account) (call : Call) → refusal holidays a call ≡ 0 → Accepted holidays a call
unfolding refusal
accepted holidays a call e =
    let fourteen = passes _ e in
    let one = passes _ fourteen.1 in
    let both = or_else_lem (first_refusal (head_of a) call) (last_refusal (work holidays a call).account.ledger) one.1 in
    let twelve = passes _ both.1 in
    record {
      listed = fourteen.0;
      is_whole = one.0;
      first_passed = both.0;
      items_most = leb-true _ _ twelve.0;
      credit_most = leb-true _ _ (passes _ twelve.1).0;
    }
