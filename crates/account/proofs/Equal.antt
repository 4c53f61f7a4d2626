-- An account, its parts and their places are equal where `==` finds them so. Assumes nothing.
use Rattle.common.proofs.Words.{◌≡◌, refl, sym, subst, true, eqb-true, rules}
use Rattle.common.proofs.Tests.{and_both}
use Rattle.std.specs.Cmp.{Rules.hashing, Lexicographic.pointwise_decides, Derive.one_truth}
use Rattle.meter.specs.{declared.Estimate.Estimate, declared.Estimates.Estimates, declared.Meter.Meter}
use Rattle.meter.specs.contracts.EstimatePartialEq.TheImpl as estimate
use Rattle.meter.specs.contracts.EstimatesPartialEq.TheImpl as estimates
use Rattle.meter.specs.contracts.MeterPartialEq.TheImpl as meter
use Rattle.ledger.specs.{declared.Item.Item, declared.Ledger.Ledger}
use Rattle.ledger.specs.contracts.ItemPartialEq.TheImpl as item
use Rattle.ledger.specs.contracts.LedgerPartialEq.TheImpl as ledger
use Rattle.intake.specs.declared.Status.TheVariants.{New}
use Rattle.account.specs.{declared.Account.Account, Calls.new_account, Whole.whole}
use Rattle.account.specs.contracts.AccountPartialEq.TheImpl as account
use Rattle.account.proofs.Made.{new_whole, whole_new}

meters : (one other : Meter) → meter.ghosts.eq one other ≡ true → one ≡ other
meters one other e = search (hashing, rules)

places : (one other : Estimate) → (estimate.ghosts.eq one other ≡ true → one ≡ other) × (one ≡ other → estimate.ghosts.eq one other ≡ true)
places one other = (λ e. search (hashing, rules), λ e. search (hashing, rules))

items : (one other : Item) → (item.ghosts.eq one other ≡ true → one ≡ other) × (one ≡ other → item.ghosts.eq one other ≡ true)
items one other = (λ e. search (hashing, rules), λ e. search (hashing, rules))

all_estimates : (one other : Estimates) → estimates.ghosts.eq one other ≡ true → one ≡ other
all_estimates one other e =
    let two = and_both e in
    λ i. record {
      count = eqb-true one.count other.count two.0 i;
      periods = (pointwise_decides places one.periods other.periods).0 two.1 i;
    }

ledgers : (one other : Ledger) → ledger.ghosts.eq one other ≡ true → one ≡ other
ledgers one other e =
    let four = and_both e in
    let three = and_both four.1 in
    let two = and_both three.1 in
    λ i. record {
      count = eqb-true one.count other.count four.0 i;
      items = (pointwise_decides items one.items other.items).0 three.0 i;
      held = eqb-true one.held other.held two.0 i;
      credit = eqb-true one.credit other.credit two.1 i;
    }

equal_new : (a : Account) → a.status ≡ New → account.ghosts.eq a new_account ≡ true → a ≡ new_account
equal_new a status e =
    let four = and_both (and_both e).1 in
    let three = and_both four.1 in
    let two = and_both three.1 in
    λ i. record {
      status = status i;
      latest = eqb-true a.latest new_account.latest four.0 i;
      meter = meters a.meter new_account.meter three.0 i;
      estimates = all_estimates a.estimates new_account.estimates two.0 i;
      ledger = ledgers a.ledger new_account.ledger two.1 i;
    }

-- An account of status new is whole exactly where it equals the new one.
pub new_compared : (a other : Account) → other ≡ new_account → a.status ≡ New → account.ghosts.eq a other ≡ whole a
new_compared a other made status =
    rw made
    (one_truth (account.ghosts.eq a new_account) (whole a)
    (λ e. subst (λ x. whole x ≡ true) (sym (equal_new a status e)) new_whole)
    (λ w. subst (λ x. account.ghosts.eq x new_account ≡ true) (sym (whole_new a status w)) refl))
