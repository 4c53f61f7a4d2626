-- An account that calls lead to is whole, and goes on so: number 41 has nothing to find. Assumes nothing.
use Rattle.common.proofs.Words.{◌≡◌, refl, sym, ap, ◌∙◌, true, List, [], ◌∷◌, ◌++◌, ℕ}
use Rattle.common.proofs.Cases.{by_test}
use Rattle.duedays.specs.DueDays.{list_allowed}
use Rattle.ledger.specs.Posting.{Tidy}
use Rattle.std.specs.Prelude.{Option, Some, None}
use Rattle.account.specs.{declared.Account.Account, Calls.new_account, Calls.standing_estimates, Outcomes.outcome, Whole.whole}
use Rattle.intake.specs.declared.Call.{Call}
use Rattle.closing.specs.Closing.{stored_estimates}
use Rattle.audit.specs.Claim.{Run, start, step, run}
use Rattle.audit.proofs.Theorem.{reconciled, tidy, tidy_estimates}
use Rattle.lines.specs.Line.{read_outcome, parsed_outcome}
use Rattle.feeding.specs.Reached.{Reached}

pub reached_whole : (holidays : List ℕ) (a : Account) → Reached holidays a → whole a ≡ true
reached_whole holidays a r = rw r.account_is (reconciled holidays r.calls).is_whole

pub reached_tidy : (holidays : List ℕ) (a : Account) → Reached holidays a → Tidy a.ledger
reached_tidy holidays a r = rw r.account_is (tidy holidays r.calls)

pub reached_estimates : (holidays : List ℕ) (a : Account) → Reached holidays a → a.estimates ≡ stored_estimates (standing_estimates a)
reached_estimates holidays a r = rw r.account_is (tidy_estimates holidays r.calls)

pub reached_new : (holidays : List ℕ) → Reached holidays new_account
unfolding run
reached_new holidays = record { calls = []; account_is = refl }

run_behind : (holidays : List ℕ) (r : Run) (calls : List Call) (call : Call)
    → run holidays r (calls ++ (call ∷ [])) ≡ step holidays (run holidays r calls) call
unfolding run
run_behind holidays r [] call = refl
run_behind holidays r (c ∷ cs) call = run_behind holidays (step holidays r c) cs call

reached_call : (holidays : List ℕ) (a : Account) (call : Call) → Reached holidays a → Reached holidays (outcome holidays a call).account
reached_call holidays a call r =
    record {
      calls = r.calls ++ (call ∷ []);
      account_is =
          ap (λ x. (outcome holidays x call).account) r.account_is ∙
          sym (ap (λ (q : Run). q.account) (run_behind holidays start r.calls call));
    }

pub reached_parsed : (holidays : List ℕ) (a : Account) (line : Option Call) → Reached holidays a
    → Reached holidays (parsed_outcome holidays a line).account
reached_parsed holidays a line r = by_test (list_allowed holidays) (λ e. rw e (read line)) (λ e. rw e r)
  where
    read : (line : Option Call) → Reached holidays (read_outcome holidays a line).account
    read (Some call) = reached_call holidays a call r
    read None = r
