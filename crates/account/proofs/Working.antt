-- A plan comes to the work of its call. Assumes nothing.
use Rattle.common.proofs.Words.{◌≡◌, refl, ap, cond, List, [], ◌++◌, ℕ, add-zero, zero-add, pos, length, replicate}
use Rattle.lists.proofs.Pad.{drop_replicate}
use Rattle.meter.specs.{declared.Estimates.Estimates, declared.Volumes.Volumes, Sharing.volumes_of, Sharing.filled_with}
use Rattle.ledger.specs.{declared.Ledger.Ledger, Posting.Standing, Posting.standing, Posting.closed, Entries.taken, Entries.asked}
use Rattle.ledger.proofs.Posting.{closed_with_none}
use Rattle.intake.specs.declared.Call.TheVariants.{Opening, Reading, Missed, Absent, Exchange, Disconnection, Reconnection, Cancellation}
use Rattle.intake.specs.declared.Call.TheVariants.{Payment, StoppedCancellation}
use Rattle.intake.specs.{declared.Head.Head, declared.Call.Call, Heads.head_on, Statuses.is_cancelled}
use Rattle.plan.specs.Plans.{held_entry, stopped_plan, passed_plan, passed_volumes}
use Rattle.plan.specs.declared.Plan.{Plan}
use Rattle.account.specs.Calls.{head_of, standing_estimates, Work, work, paid_ledger, stopped_cancellation, account_of}
use Rattle.account.specs.{declared.Account.Account, Works.work_of}

-- The head of an account that was made of it.
pub head_counted : (h : Head) (estimates : Estimates) (ledger : Ledger) → estimates.count ≡ h.standing
    → head_of (account_of h estimates ledger) ≡ h
head_counted h estimates ledger count_is = λ i. head_on h h.status h.latest h.meter (count_is i)

-- 0a asks for a closing with no net.
held_asked_lem : (holidays : List ℕ) (day : ℕ) (s : Standing) → asked holidays (held_entry day) s ≡ closed holidays day (pos 0) s
unfolding asked taken closed
held_asked_lem holidays day s = refl

module _ (holidays : List ℕ) (a : Account) where
  abbrev work_by : Plan → List ℕ → Work
  work_by p final = work_of holidays p final a.estimates a.ledger

  stopped_works : (day : ℕ) → work_by (stopped_plan (head_of a) day) [] ≡ stopped_cancellation holidays a day
  stopped_works day =
      let s = standing a.ledger in
      rw (held_asked_lem holidays day s, closed_with_none holidays day s, add-zero a.ledger.held)

  pub plan_works : (call : Call)
      → work_by (passed_plan (head_of a) (standing_estimates a) call) (passed_volumes (head_of a) (standing_estimates a) call)
      ≡ work holidays a call
  unfolding work passed_plan passed_volumes asked taken closed
  plan_works (Opening _ _ _) = refl
  plan_works (Reading _ _ _) = rw (add-zero a.ledger.held)
  plan_works (Missed _ _) = rw (add-zero a.ledger.held)
  plan_works (Absent _ _) = rw (add-zero a.ledger.held)
  plan_works (Exchange _ _ _ _) = refl
  plan_works (Disconnection _ _ _) = rw (add-zero a.ledger.held)
  plan_works (Reconnection _ _ _) = refl
  plan_works (Cancellation _ _ _) = refl
  plan_works (Payment day yen) = rw (zero-add (cond (is_cancelled a.status) (paid_ledger a day yen).held 0))
  plan_works (StoppedCancellation day) = stopped_works day

-- Volumes put into an array of zeros are those of an answer.
pub zeros_filled : (final : List ℕ)
    → ◌≡◌ {A = Volumes} (record { count = length final; volumes = filled_with final (replicate 7 0) }) (volumes_of final)
zeros_filled final = ap (λ rest. record { count = length final; volumes = final ++ rest }) (drop_replicate 0 (length final) 7)
