-- 01, 05 and 07: calls that close nothing and move no money keep account and book together. Assumes nothing.
use Rattle.common.proofs.Words.{◌≡◌, refl, ap, sym, subst, inl, Bool, false, cond, List, ℕ, ◌+◌, ◌≤◌, le_refl, arith, eqb}
use Rattle.lists.specs.Every.{Every}
use Rattle.common.proofs.Cases.{by_cond}
use Rattle.lists.proofs.Every.{every_map}
use Rattle.ledger.specs.{declared.Ledger.Ledger, Posting.standing}
use Rattle.account.specs.{declared.Account.Account, Calls.head_of, Calls.standing_estimates}
use Rattle.intake.specs.{Limits.most_volume, Limits.most_misses, Statuses.stop_of, Statuses.is_new, Statuses.is_stopped, Periods.resumed_start}
use Rattle.account.proofs.Facts.{ItemFacts, LedgerFacts, EstimateFacts, estimates_later, new_facts}
use Rattle.account.proofs.Sound.{item_later, Limited}
use Rattle.intake.proofs.Passed.{DialPassed, ExchangePassed}
use Rattle.audit.specs.Book.{Book, Money, closed_on, settled, accept_meter, begun, exchanged}
use Rattle.audit.proofs.Balance.{on_ledger, settled_same, quiet_balanced, finished_open}
use Rattle.audit.proofs.Matching.{pool_to_lem, Matched, new_open, supply, stop}
use Rattle.account.specs.Calls

-- A ledger with the items of an earlier day.
ledger_later : {latest day : ℕ} {ledger : Ledger} → latest ≤ day → LedgerFacts latest ledger → LedgerFacts day ledger
ledger_later {latest} {day} {ledger} h w =
    let items = every_map (ItemFacts latest) (ItemFacts day) (item_later latest day h) (standing ledger).open_items w.items in
    search

-- The money of the book after such a call.
limited_same : {a : Account} {b : Book} (day : ℕ) → Matched a b → Limited (on_ledger (settled b.money day))
limited_same day w = subst (λ (m : Money). Limited (on_ledger m)) (sym (settled_same day w.balanced.kept)) w.limited

-- What an account keeps as it is when the dial is set.
record Carried (a : Account) : Type 0 where
  pool_most : a.meter.pool ≤ most_volume
  basis_most : a.meter.basis ≤ most_volume
  misses_most : a.estimates.count ≤ most_misses
  estimates : Every (EstimateFacts a.latest) (standing_estimates a)
  ledger : LedgerFacts a.latest a.ledger

-- 01 and 07: the dial is set and a period begins.
module _ (holidays : List ℕ) {a : Account} {b : Book} (w : Matched a b) {day reading digits : ℕ} {allowed : Bool}
    (p : DialPassed allowed (head_of a) day reading digits) where
  begun_matched : Carried a → b.money.is_cancelled ≡ false → (start : ℕ) {bookStart : ℕ} → start ≡ bookStart → start ≤ day + 1
      → Matched (Calls.begun a day reading digits start).account (accept_meter holidays b day (begun b.metering reading digits bookStart))
  begun_matched kept not_cancelled start same start_most =
      let estimates = estimates_later p.not_before (standing_estimates a) kept.estimates in
      rw (finished_open holidays b.money day not_cancelled)
      (record {
        metered = search;
        balanced = quiet_balanced day w.balanced;
        status_match = (same, not_cancelled);
        facts = (start_most, record { meter = search; ledger = ledger_later p.not_before kept.ledger });
        limited = limited_same day w;
      })

pub opening_matched : (holidays : List ℕ) {a : Account} {b : Book} → Matched a b → {day reading digits : ℕ}
    → DialPassed (is_new a.status) (head_of a) day reading digits
    → Matched (Calls.begun a day reading digits day).account (accept_meter holidays b day (begun b.metering reading digits day))
opening_matched holidays {a} w {day} p = begun_matched holidays w p kept (new_open w p.status_allows) day refl (omega arith)
  where
    -- nothing has been read, and nothing stands
    kept : Carried a
    kept = subst Carried (sym (new_facts a.status a p.status_allows w.facts)) (search (inl, arith))

pub reconnection_matched : (holidays : List ℕ) {a : Account} {b : Book} → Matched a b → {day reading digits : ℕ}
    → DialPassed (is_stopped a.status) (head_of a) day reading digits
    → Matched (Calls.begun a day reading digits (resumed_start (stop_of a.status) day)).account
    (accept_meter holidays b day (begun b.metering reading digits (cond (closed_on b.periods day) (day + 1) day)))
reconnection_matched holidays {a} w {day} p =
    let stopped = stop w p.status_allows in
    let f = stopped.facts.meter in
    begun_matched holidays w p (search) stopped.not_cancelled (resumed_start (stop_of a.status) day)
    (ap (λ c. cond c (day + 1) day) (sym (stopped.closed_on day)))
    (by_cond (λ n. n ≤ day + 1) (eqb (stop_of a.status) day) (le_refl (day + 1)) (omega arith))

-- 05: the status stays.
pub exchange_matched : (holidays : List ℕ) {a : Account} {b : Book} → Matched a b → {day old new digits : ℕ}
    → ExchangePassed (head_of a) day old new digits
    → Matched (Calls.exchanged a day old new digits).account (accept_meter holidays b day (exchanged b.metering old new digits))
exchange_matched holidays {a} {b} w {day} {old} p =
    let supplied = supply w p.supplied in
    let f = supplied.facts.meter in
    let estimates = estimates_later p.not_before (standing_estimates a) f.estimates in
    let pool = pool_to_lem w.metered old in
    rw (finished_open holidays b.money day supplied.not_cancelled)
    (record {
      metered = search;
      balanced = quiet_balanced day w.balanced;
      status_match = rw supplied.status_is (supplied.start_is, supplied.not_cancelled);
      facts =
          rw supplied.status_is (
            omega (arith, supplied.start_most, p.not_before),
            record { meter = search; ledger = ledger_later p.not_before supplied.facts.ledger },
          );
      limited = limited_same day w;
    })
