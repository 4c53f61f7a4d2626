-- Demand 3: both sums, wholeness, and declined calls, by every list of closed days, after every list of calls from a new account.
-- Assumes nothing.
use Rattle.common.proofs.Words.{◌≡◌, refl, sym, ap, subst, ◌∙◌, Bool, true, false, false≢true, List, [], ◌∷◌, ◌++◌, map, ℕ, zero, suc, ◌+◌}
use Rattle.common.proofs.Words.{zero-add, arith, eqb, eqb-true, length, replicate}
use Rattle.lists.specs.Sum.{total, sum}
use Rattle.common.proofs.Cases.{by_test}
use Rattle.lists.proofs.Pad.{take_pad}
use Rattle.duedays.specs.DueDays.{list_allowed}
use Rattle.lists.specs.Every.{Every}
use Rattle.ledger.specs.{Settling.unpaid_of, Posting.Standing, Posting.standing, Posting.stored, Posting.Tidy}
use Rattle.ledger.proofs.Interest.{PartFacts}
use Rattle.account.specs.Calls.{standing_estimates, head_of, new_account, Work, work}
use Rattle.account.specs.Whole.{made_meter, made_estimates, made_ledger, as_made, whole}
use Rattle.account.specs.{declared.Account.Account, declared.Answer.Answer, declared.Outcome.Outcome, Refusals.refusal}
use Rattle.account.specs.Outcomes.{accepted, declining, declined, outcome}
use Rattle.intake.specs.declared.Call.TheVariants.{Opening, Reading, Missed, Absent, Exchange, Disconnection, Reconnection, Cancellation}
use Rattle.intake.specs.declared.Call.TheVariants.{Payment, StoppedCancellation}
use Rattle.intake.specs.{declared.Call.Call, Statuses.is_new, Statuses.is_stopped, Refusals.first_refusal}
use Rattle.closing.specs.Closing.{stored_estimates}
use Rattle.account.proofs.{Concluding.outcome_not_listed, Facts.facts_whole, Passed.Accepted}
use Rattle.intake.proofs.Passed.{begun, reading_passed, miss_passed, dial_passed, exchange_passed, payment_passed}
use Rattle.ledger.proofs.Within.{Passes}
use Rattle.audit.specs.Book.{Book, basis, new_period, prices, accept_miss, accept, enter}
use Rattle.audit.specs.Claim.{Run, start, step, run, final_volume, unpaid_on, Reconciled, Done, Ran, seen}
use Rattle.audit.proofs.Matching.{Matched, supply, stop, estimates_stand}
use Rattle.audit.proofs.Readings.{reading-matched, disconnection-matched, cancellation-matched, reading_advanced}
use Rattle.audit.proofs.{Balance.standing_is, Balance.yen_sum, Misses.miss_matched}
use Rattle.audit.proofs.Meters.{opening_matched, reconnection_matched, exchange_matched}
use Rattle.audit.proofs.Payments.{payment_matched, stopped_cancellation_matched}
use Rattle.account.proofs.Passed

-- An accepted call keeps account and book together, and makes final what the book's meters advanced.
record Kept (holidays : List ℕ) (a : Account) (b : Book) (call : Call) : Type 0 where
  pub matched : Matched (work holidays a call).account (accept holidays b call)
  pub volumes : sum (work holidays a call).volumes + b.metering.advanced ≡ (accept holidays b call).metering.advanced

-- 12 and 13 let it pass.
passes : {holidays : List ℕ} {a : Account} {call : Call} → Accepted holidays a call
    → let after = (work holidays a call).account.ledger in
    Passes after.count after.credit
passes p = record { count_most = p.items_most; credit_most = p.credit_most }

keeps : (holidays : List ℕ) (a : Account) (b : Book) → Matched a b → (call : Call) → Accepted holidays a call → Kept holidays a b call
unfolding work accept first_refusal
keeps holidays a b w (Opening day reading digits) p =
    let q = dial_passed (is_new a.status) (head_of a) day reading digits p.first_passed in
    record { matched = opening_matched holidays w q; volumes = zero-add _ }
keeps holidays a b w (Reading day reading fuel) p =
    let call = Reading day reading fuel in
    let q = reading_passed (head_of a) day reading fuel p.first_passed in
    record {
      matched = reading-matched holidays p.listed w q call refl refl (passes p);
      volumes = reading_advanced holidays p.listed w q call refl refl;
    }
keeps holidays a b w (Missed day fuel) p =
    let call = Missed day fuel in
    let q = miss_passed (head_of a) day fuel p.first_passed in
    let most = (supply w q.supplied).facts.meter.basis_most in
    let after = miss_matched holidays p.listed w q call refl a.meter.basis most (λ e. absurd (false≢true e)) (passes p) in
    let With : ℕ → Type 0 = λ v.
    Matched (work holidays a call).account (accept_miss holidays b day (new_period b.metering call day fuel v ∷ b.periods))
    in
    record { matched = subst With w.metered.basis_is after; volumes = zero-add _ }
keeps holidays a b w (Absent day fuel) p =
    let q = miss_passed (head_of a) day fuel p.first_passed in
    record { matched = miss_matched holidays p.listed w q (Absent day fuel) refl 0 (omega arith) (λ _. refl) (passes p); volumes = zero-add _ }
keeps holidays a b w (Exchange day old new digits) p =
    record { matched = exchange_matched holidays w (exchange_passed (head_of a) day old new digits p.first_passed); volumes = zero-add _ }
keeps holidays a b w (Disconnection day reading fuel) p =
    let call = Disconnection day reading fuel in
    let q = reading_passed (head_of a) day reading fuel p.first_passed in
    record {
      matched = disconnection-matched holidays p.listed w q call refl refl (passes p);
      volumes = reading_advanced holidays p.listed w q call refl refl;
    }
keeps holidays a b w (Reconnection day reading digits) p =
    let q = dial_passed (is_stopped a.status) (head_of a) day reading digits p.first_passed in
    record { matched = reconnection_matched holidays w q; volumes = zero-add _ }
keeps holidays a b w (Cancellation day reading fuel) p =
    let call = Cancellation day reading fuel in
    let q = reading_passed (head_of a) day reading fuel p.first_passed in
    record {
      matched = cancellation-matched holidays p.listed w q call refl refl (passes p);
      volumes = reading_advanced holidays p.listed w q call refl refl;
    }
keeps holidays a b w (Payment day yen) p =
    record { matched = payment_matched holidays p.listed w (payment_passed (head_of a) day yen p.first_passed) (passes p); volumes = zero-add _ }
keeps holidays a b w (StoppedCancellation day) p =
    let q = begun (is_stopped a.status) a.latest day 0 p.first_passed in
    let facts = (stop w q.status_allows).facts in
    record { matched = stopped_cancellation_matched holidays p.listed w q.day_most q.not_before facts (passes p); volumes = zero-add _ }

-- A run: account and book belong together, and the first sum holds.
record Holds (r : Run) : Type 0 where
  pub matched : Matched r.account r.book
  pub volumes : total final_volume r.answers ≡ r.book.metering.advanced

-- What an accepted call and a declined one hand back.
module _ (holidays : List ℕ) (a : Account) (call : Call) where
  abbrev accepts : Bool
  accepts = eqb (refusal holidays a call) 0

  accepted_is : accepts ≡ true → outcome holidays a call ≡ accepted (work holidays a call)
  unfolding outcome
  accepted_is e = rw e

  declined_is : accepts ≡ false → outcome holidays a call ≡ declined a (refusal holidays a call)
  unfolding outcome
  declined_is e = rw e

final_of : (w : Work) → final_volume (accepted w).answer ≡ sum w.volumes
final_of w = ap sum (take_pad 0 7 w.volumes)

step_holds : (holidays : List ℕ) (r : Run) (call : Call) → Holds r → Holds (step holidays r call)
unfolding enter
step_holds holidays r call h =
    let a = r.account in
    by_test (accepts holidays a call)
    (λ e.
    let kept = keeps holidays a r.book h.matched call (Passed.accepted holidays a call (eqb-true (refusal holidays a call) 0 e)) in
    let final = final_of (work holidays a call) in
    rw (accepted_is holidays a call e) (record { matched = kept.matched; volumes = omega (arith, final, kept.volumes, h.volumes) }))
    (λ e. rw (declined_is holidays a call e, e) (record { matched = h.matched; volumes = omega (arith, h.volumes) }))

run_holds : (holidays : List ℕ) (r : Run) (calls : List Call) → Holds r → Holds (run holidays r calls)
unfolding run
run_holds holidays r [] h = h
run_holds holidays r (call ∷ calls) h = run_holds holidays (step holidays r call) calls (step_holds holidays r call h)

start_holds : Holds start
unfolding as_made made_meter made_estimates made_ledger
start_holds =
    record {
      matched =
          record {
            metered = record { dial_is = refl; digits_is = refl; pool_is = refl; basis_is = refl; estimates_are = refl; zeros = tt };
            balanced = record { stored_as = refl; fits = omega arith; kept = record { covers = tt; sums = refl } };
            status_match = refl;
            facts = refl;
            limited = record { load_most = omega arith; parts = tt };
          };
      volumes = refl;
    }

-- The second sum.
yen_holds : {a : Account} {b : Book} → Matched a b
    → b.money.received + unpaid_on a + a.ledger.held ≡ prices b.periods + b.money.arisen + a.ledger.credit
yen_holds w =
    let s = standing_is w.balanced in
    omega (arith, ap (λ x. unpaid_of x.open_items) s, ap (λ x. x.held) s, ap (λ x. x.credit) s, yen_sum w.balanced.kept)

-- A declined call leaves all as it was.
declined_leaves : (holidays : List ℕ) (r : Run) (call : Call) → ((outcome holidays r.account call).answer.number ≡ 0 → ⊥)
    → ((step holidays r call).account ≡ r.account) × ((step holidays r call).book ≡ r.book)
unfolding enter
declined_leaves holidays r call number =
    by_test (accepts holidays r.account call) (λ e. absurd (number (ap (λ o. o.answer.number) (accepted_is holidays r.account call e))))
    (λ e. rw (declined_is holidays r.account call e, e) (refl, refl))

-- The theorem of the two sums.
pub reconciled : (holidays : List ℕ) (calls : List Call) → Reconciled holidays (run holidays start calls)
reconciled holidays calls =
    let h = run_holds holidays start calls start_holds in
    let r = run holidays start calls in
    record {
      volumes = h.volumes;
      yen = yen_holds h.matched;
      is_whole = unfold whole in (facts_whole r.account.status r.account h.matched.facts);
      declined = declined_leaves holidays r;
    }

-- The array holds what stands on the ledger, and blanks behind it.
pub tidy : (holidays : List ℕ) (calls : List Call) → Tidy (run holidays start calls).account.ledger
tidy holidays calls =
    let balanced = (run_holds holidays start calls start_holds).matched.balanced in
    balanced.stored_as ∙ ap stored (sym (standing_is balanced))

-- So does the array of estimates.
pub tidy_estimates : (holidays : List ℕ) (calls : List Call)
    → let a = (run holidays start calls).account in a.estimates ≡ stored_estimates (standing_estimates a)
tidy_estimates holidays calls =
    let metered = (run_holds holidays start calls start_holds).matched.metered in
    metered.estimates_are ∙ ap stored_estimates (sym (estimates_stand metered))

-- Every open item carries of its body what is not paid, and a sum of at most the body that was paid × the most days late.
pub parts_kept : (holidays : List ℕ) (calls : List Call) → Every PartFacts (standing (run holidays start calls).account.ledger).open_items
parts_kept holidays calls =
    let matched = (run_holds holidays start calls start_holds).matched in
    subst (λ (s : Standing). Every PartFacts s.open_items) (sym (standing_is matched.balanced)) matched.limited.parts

-- The number that the account keeps is the volume of the nearest period of the book that wasn't an 04 period.
pub basis_kept : (holidays : List ℕ) (calls : List Call) → let r = run holidays start calls in r.account.meter.basis ≡ basis r.book.periods
basis_kept holidays calls = (run_holds holidays start calls start_holds).matched.metered.basis_is

replicate_behind : (n : ℕ) (answer : Answer) (answers : List Answer)
    → replicate n answer ++ (answer ∷ answers) ≡ answer ∷ (replicate n answer ++ answers)
replicate_behind zero answer answers = refl
replicate_behind (suc n) answer answers = ap (answer ∷◌) (replicate_behind n answer answers)

-- By a list that breaks its bounds every call is answered 14, and nothing moves.
pub nothing_moves : (holidays : List ℕ) → list_allowed holidays ≡ false → (r : Run) (calls : List Call)
    → run holidays r calls ≡ record { account = r.account; book = r.book; answers = replicate (length calls) (declining 14) ++ r.answers }
unfolding run enter
nothing_moves holidays unlisted r [] = refl
nothing_moves holidays unlisted r (call ∷ calls) =
    let next : Outcome → Run = λ o.
    record { account = o.account; book = enter holidays r.book call o.answer.number; answers = o.answer ∷ r.answers }
    in
    ap (λ o. run holidays (next o) calls) (outcome_not_listed holidays r.account call unlisted) ∙
    nothing_moves holidays unlisted (next (declined r.account 14)) calls ∙
    ap (λ answers. record { account = r.account; book = r.book; answers = answers })
    (replicate_behind (length calls) (declining 14) r.answers)

-- What runs is the run of its calls.
seen_is : (holidays : List ℕ) (r : Run) (done : List Done) → Ran holidays r.account done
    → seen holidays r done ≡ run holidays r (map (λ d. d.call) done)
unfolding run seen
seen_is holidays r [] w = refl
seen_is holidays r (d ∷ later) w =
    let enters : Outcome → Book = λ o. enter holidays r.book d.call o.answer.number in
    let next : Outcome → Run = λ o. record { account = o.account; book = enters o; answers = o.answer ∷ r.answers } in
    seen_is holidays (next d.handed_back) later w.1 ∙ ap (λ o. run holidays (next o) (map (λ x. x.call) later)) w.0

-- Demand 3 of the code: both sums hold of what the methods handed back.
pub as_run : (holidays : List ℕ) (done : List Done) → Ran holidays new_account done → Reconciled holidays (seen holidays start done)
as_run holidays done w = subst (Reconciled holidays) (sym (seen_is holidays start done w)) (reconciled holidays (map (λ d. d.call) done))
