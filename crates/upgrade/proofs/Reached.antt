-- Closing days that are forgotten and worked out again give back every account that a list of calls reaches. Assumes nothing.
use Rattle.common.proofs.Words.{◌≡◌, refl, ap, ◌∙◌, Bool, true, false, true≢false, false≢true, List, [], ◌∷◌, ◌++◌, ℕ, ◌+◌, ◌-◌, ◌≤◌, arith}
use Rattle.common.proofs.Words.{eqb, eqb-true}
use Rattle.common.proofs.Cases.{by_test}
use Rattle.lists.proofs.{Sum.total_append, Pad.take_pad}
use Rattle.meter.specs.{declared.Estimate.Estimate, Sharing.blank}
use Rattle.intake.specs.declared.Call.TheVariants.{Opening, Reading, Missed, Absent, Exchange, Disconnection, Reconnection, Cancellation}
use Rattle.intake.specs.declared.Call.TheVariants.{Payment, StoppedCancellation}
use Rattle.intake.specs.{declared.Status.Status, declared.Call.Call, Limits.most_misses, Refusals.first_refusal}
use Rattle.intake.specs.{Statuses.is_new, Statuses.is_supplied, Statuses.is_stopped, Statuses.start_of, Statuses.stop_of, Periods.resumed_start}
use Rattle.intake.proofs.Passed.{miss_passed, dial_passed, MissPassed}
use Rattle.intake.proofs.Passed
use Rattle.account.specs.{declared.Account.Account, Calls.head_of, Calls.standing_estimates}
use Rattle.account.specs.Calls.{after_reading, begun, estimate_of, missed, work}
use Rattle.account.specs.{Refusals.refusal, Outcomes.outcome}
use Rattle.account.proofs.Passed.{Accepted, accepted}
use Rattle.audit.specs.Claim.{Run, start, step, run}
use Rattle.audit.proofs.Matching.{new_is, stopped_is}
use Rattle.tariff.specs.declared.Fuel.{Fuel}
use Rattle.ledger.specs.declared.Ledger.{Ledger}
use Rattle.upgrade.specs.ClosingDays.{closed_on, days_in, followed_by, worked_out, with_closing_days, without_closing_days}
use Rattle.upgrade.proofs.ClosingDays.{worked_out_same, worked_out_again}

-- Estimates stand only under supply, and follow on each other up to the period start.
record Followed (a : Account) : Type 0 where
  pub none : is_supplied a.status ≡ false → standing_estimates a ≡ []
  pub follow : is_supplied a.status ≡ true → followed_by (start_of a.status) (standing_estimates a) ≡ standing_estimates a

-- One more estimate behind the others: its period began at their start, and the next begins on the day after.
followed_behind : (start day : ℕ) (es : List Estimate) (e : Estimate) → start ≤ day → e.period.days ≡ day + 1 - start
    → followed_by (day + 1) (es ++ (closed_on day e ∷ [])) ≡ followed_by start es ++ (closed_on day e ∷ [])
followed_behind start day [] e h days = let same : day + 1 - 1 - 0 ≡ day = omega arith in ap (λ d. closed_on d e ∷ []) same
followed_behind start day (x ∷ es) e h days =
    let all = total_append (λ y. y.period.days) es (closed_on day e ∷ []) in
    let same : day + 1 - 1 - days_in (es ++ (closed_on day e ∷ [])) ≡ start - 1 - days_in es = omega (arith, all, days) in
    λ i. closed_on (same i) x ∷ followed_behind start day es e h days i

module _ (holidays : List ℕ) {a : Account} (w : Followed a) where
  -- 03 and 04: one more stands.
  miss_followed : {day : ℕ} {fuel : Fuel} → MissPassed (head_of a) day fuel → (absent : Bool) (volume : ℕ)
      → Followed (missed holidays a day fuel absent volume).account
  miss_followed {day} {fuel} p absent volume =
      let e = estimate_of a day fuel absent volume in
      let all = standing_estimates a ++ (e ∷ []) in
      let stand = take_pad blank most_misses all in
      let behind = followed_behind (start_of a.status) day (standing_estimates a) e (omega (arith, p.some_day)) refl in
      record {
        none = λ s. absurd (true≢false s);
        follow = λ s. rw stand (behind ∙ ap (λ front. front ++ (e ∷ [])) (w.follow p.supplied));
      }

  -- 01 and 07: supply begins where nothing stands.
  begun_followed : is_supplied a.status ≡ false → (day reading digits start : ℕ) → Followed (begun a day reading digits start).account
  begun_followed unsupplied day reading digits start =
      let none = w.none unsupplied in record { none = λ s. absurd (true≢false s); follow = λ s. rw none refl }

  -- 02, 06 and 08 leave none standing.
  read_followed : (day reading : ℕ) (fuel : Fuel) (status : Status) (ledger : Ledger)
      → Followed (after_reading a day reading fuel status ledger)
  read_followed day reading fuel status ledger = record { none = λ s. refl; follow = λ s. refl }

  -- 05 and 09 change neither status nor estimates.
  call_followed : (call : Call) → Accepted holidays a call → Followed (work holidays a call).account
  unfolding work first_refusal
  call_followed (Opening day reading digits) p =
      let q = dial_passed (is_new a.status) (head_of a) day reading digits p.first_passed in
      begun_followed (ap is_supplied (new_is a.status q.status_allows)) day reading digits day
  call_followed (Reading day reading fuel) p = read_followed day reading fuel _ _
  call_followed (Missed day fuel) p = miss_followed (miss_passed (head_of a) day fuel p.first_passed) false a.meter.basis
  call_followed (Absent day fuel) p = miss_followed (miss_passed (head_of a) day fuel p.first_passed) true 0
  call_followed (Exchange day old new digits) p = record { none = w.none; follow = w.follow }
  call_followed (Disconnection day reading fuel) p = read_followed day reading fuel _ _
  call_followed (Reconnection day reading digits) p =
      let q = dial_passed (is_stopped a.status) (head_of a) day reading digits p.first_passed in
      begun_followed (ap is_supplied (stopped_is a.status q.status_allows)) day reading digits (resumed_start (stop_of a.status) day)
  call_followed (Cancellation day reading fuel) p = read_followed day reading fuel _ _
  call_followed (Payment day yen) p = record { none = w.none; follow = w.follow }
  call_followed (StoppedCancellation day) p =
      let q = Passed.begun (is_stopped a.status) a.latest day 0 p.first_passed in
      let none = w.none (ap is_supplied (stopped_is a.status q.status_allows)) in
      record { none = λ s. none; follow = λ s. absurd (false≢true s) }

  step_followed : (call : Call) → Followed (outcome holidays a call).account
  unfolding outcome
  step_followed call =
      by_test (eqb (refusal holidays a call) 0)
      (λ e. rw e (call_followed call (accepted holidays a call (eqb-true (refusal holidays a call) 0 e))))
      (λ e. rw e w)

run_followed : (holidays : List ℕ) (r : Run) (calls : List Call) → Followed r.account → Followed (run holidays r calls).account
unfolding run
run_followed holidays r [] w = w
run_followed holidays r (call ∷ calls) w = run_followed holidays (step holidays r call) calls (step_followed holidays w call)

-- What is worked out of such estimates is what stands.
followed_stand : (a : Account) → Followed a → worked_out a.status a.latest (standing_estimates a) ≡ standing_estimates a
followed_stand a w = by_test (is_supplied a.status) (λ e. rw e (w.follow e)) (λ e. rw (e, w.none e) refl)

-- Every account that a list reaches is given back.
pub given_back : (holidays : List ℕ) (calls : List Call)
    → let a = (run holidays start calls).account in with_closing_days (without_closing_days a) ≡ a
given_back holidays calls =
    let a = (run holidays start calls).account in
    let w = run_followed holidays start calls (record { none = λ s. refl; follow = λ s. refl }) in
    worked_out_again a ∙ worked_out_same a (followed_stand a w)
