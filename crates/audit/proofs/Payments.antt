-- 09 and 0a: a payment, and a cancellation while stopped, keep account and book together. Assumes nothing.
use Rattle.common.proofs.Words.{◌≡◌, refl, ap, true, false, not, false≢true, true≢false, List, ℕ, ◌≤◌, arith}
use Rattle.duedays.specs.DueDays.{list_allowed}
use Rattle.ledger.specs.Posting.{Standing, standing, stored, held_posted}
use Rattle.ledger.specs.Limits.{last_call_day}
use Rattle.intake.specs.declared.Status.TheVariants.{New, Supplied, Stopped, Cancelled}
use Rattle.intake.specs.{declared.Status.Status, Statuses.is_cancelled, Statuses.is_new}
use Rattle.account.specs.Calls.{head_of, standing_estimates, with_ledger, paid_ledger, payment, stopped_cancellation}
use Rattle.account.specs.declared.Account.{Account}
use Rattle.common.proofs.Cases.{by_test}
use Rattle.ledger.proofs.Within.{Passes}
use Rattle.account.proofs.Facts.{Facts, StatusFacts, estimates_later, not_new_facts}
use Rattle.intake.proofs.Passed.{PaymentPassed}
use Rattle.audit.specs.Book.{Book, Money, prices, settled, received, interest_entered, cancelled, accept_money}
use Rattle.audit.proofs.Standings.{Stands, Fits, stands, stands_limited, stands_balanced, stands_facts, cancelled_stands, waits_stands}
use Rattle.audit.proofs.Standings.{paid_stands, posted_stands}
use Rattle.audit.proofs.Balance.{finished_open, finished_cancelled, entered_none}
use Rattle.audit.proofs.Matching.{Matched, StatusMatch, cancelled_is}

-- What a call leaves that has to do with money alone.
module _ (holidays : List ℕ) (listed : list_allowed holidays ≡ true)
    {a : Account} {b : Book} (w : Matched a b) {day : ℕ} (day_most : day ≤ last_call_day) (not_before : a.latest ≤ day)
    (facts : Facts a) where
  abbrev book_with : Money → Book
  book_with m = record { metering = b.metering; periods = b.periods; money = m }

  before : Stands day (standing a.ledger) b.money (prices b.periods)
  before = stands w facts not_before

  module _ {x : Standing} {m : Money} (s : Stands day x m (prices b.periods)) (fits : Fits x) where
    facts_after : (status : Status) → Facts (with_ledger a day status (stored x))
    facts_after status =
        let known = facts.meter in
        let estimates = estimates_later not_before (standing_estimates a) known.estimates in
        record { meter = search; ledger = stands_facts s fits }

    money_matched : (status : Status) → StatusMatch status (book_with m) → StatusFacts status (with_ledger a day status (stored x))
        → Matched (with_ledger a day status (stored x)) (book_with m)
    money_matched status match kept =
        let balanced = stands_balanced s fits in
        record { metered = w.metered; balanced = balanced; status_match = match; facts = kept; limited = stands_limited s }

    cancelled_matched : m.unentered ≡ 0 → m.is_cancelled ≡ true → Matched (with_ledger a day Cancelled (stored x)) (book_with m)
    cancelled_matched none marked =
        let held = ap (λ (y : Standing). y.held) s.is in
        money_matched Cancelled (none, marked) (omega (arith, held), facts_after Cancelled)

  -- 09: payment.
  module _ (yen : ℕ) where
    abbrev paid_money : Money
    paid_money = settled (received b.money yen) day

    paid_after : Stands day (paid_ledger a day yen) paid_money (prices b.periods)
    paid_after = paid_stands before day_most yen

    open_payment : (status : Status) → is_cancelled status ≡ false → not (is_new status) ≡ true → StatusMatch status b → StatusFacts status a
        → Fits (paid_ledger a day yen)
        → Matched (with_ledger a day status (stored (paid_ledger a day yen))) (accept_money holidays b day (received b.money yen))
    open_payment New running known match kept fits = absurd (false≢true known)
    open_payment (Supplied start) running known match kept fits =
        rw (finished_open holidays (received b.money yen) day match.1)
        (money_matched paid_after fits (Supplied start) match (omega (arith, kept.0), facts_after paid_after fits (Supplied start)))
    open_payment (Stopped stop) running known match kept fits =
        rw (finished_open holidays (received b.money yen) day match.1)
        (money_matched paid_after fits (Stopped stop) match (omega (arith, kept.0), facts_after paid_after fits (Stopped stop)))
    open_payment Cancelled running known match kept fits = absurd (true≢false running)

    cancelled_payment : b.money.is_cancelled ≡ true → Fits (held_posted holidays day (paid_ledger a day yen))
        → Matched (with_ledger a day Cancelled (stored (held_posted holidays day (paid_ledger a day yen))))
        (accept_money holidays b day (received b.money yen))
    cancelled_payment marked fits =
        let none = entered_none holidays day paid_after.kept in
        rw (finished_cancelled holidays (received b.money yen) day marked)
        (cancelled_matched (posted_stands paid_after holidays listed day_most fits.count_most) fits none marked)

  -- 0a: cancellation while stopped.
  pub stopped_cancellation_matched : Fits (held_posted holidays day (standing a.ledger))
      → Matched (stopped_cancellation holidays a day).account (accept_money holidays b day (cancelled (interest_entered holidays b.money day)))
  stopped_cancellation_matched fits =
      let posted = posted_stands before holidays listed day_most fits.count_most in
      let waits = waits_stands posted holidays (entered_none holidays day before.kept) in
      cancelled_matched (cancelled_stands waits) fits (entered_none holidays day posted.kept) refl

-- 09 by status.
pub payment_matched : (holidays : List ℕ) → list_allowed holidays ≡ true → {a : Account} {b : Book} → Matched a b → {day yen : ℕ}
    → PaymentPassed (head_of a) day yen
    → (let after = (payment holidays a day yen).account.ledger in Passes after.count after.credit)
    → Matched (payment holidays a day yen).account (accept_money holidays b day (received b.money yen))
payment_matched holidays listed {a} w {day} {yen} p fits =
    let facts = not_new_facts a.status a p.not_new w.facts in
    by_test (is_cancelled a.status)
    (λ e.
    let is = cancelled_is a.status e in
    let match = rw is at w.status_match in
    rw is (cancelled_payment holidays listed w p.day_most p.not_before facts yen match.1 (rw is at fits)))
    (λ e.
    rw e
    (open_payment holidays listed w p.day_most p.not_before facts yen a.status e p.not_new w.status_match w.facts (rw e at fits)))
