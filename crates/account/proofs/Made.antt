-- A new account as made is the new account. Assumes nothing.
use Rattle.common.proofs.Words.{◌≡◌, refl, sym, ap, ◌∙◌, Bool, true, false, false≢true, eqb-true}
use Rattle.common.proofs.Tests.{and_both}
use Rattle.lists.proofs.Every.{same_equal}
use Rattle.tariff.specs.declared.BillingPeriod.{BillingPeriod}
use Rattle.meter.specs.{declared.Estimate.Estimate, declared.Estimates.Estimates}
use Rattle.ledger.specs.{declared.Kind.Kind, declared.Kind.TheVariants.Interest, declared.Kind.TheVariants.Price, declared.Item.Item}
use Rattle.ledger.specs.{declared.Ledger.Ledger, Interest.is_price}
use Rattle.intake.specs.{declared.Status.Status, declared.Status.TheVariants.New, Heads.head_on}
use Rattle.account.specs.Whole.{agree, same_period, same_estimate, same_item, made_meter, made_estimates, made_ledger, as_made, whole_status, whole}
use Rattle.account.specs.{declared.Account.Account, Calls.new_account, Calls.head_of, Calls.account_of}

-- What agrees is equal.
marks_equal : (one other : Bool) → agree one other ≡ true → one ≡ other
marks_equal true true e = refl
marks_equal true false e = sym e
marks_equal false true e = e
marks_equal false false e = refl

kinds_equal : (one other : Kind) → agree (is_price one) (is_price other) ≡ true → one ≡ other
kinds_equal Interest Interest e = refl
kinds_equal Interest Price e = absurd (false≢true e)
kinds_equal Price Interest e = absurd (false≢true e)
kinds_equal Price Price e = refl

periods_equal : (one other : BillingPeriod) → same_period one other ≡ true → one ≡ other
periods_equal one other e =
    let four = and_both e in
    let three = and_both four.0 in
    let two = and_both three.0 in
    λ i. record {
      days = eqb-true one.days other.days two.0 i;
      closing_day = eqb-true one.closing_day other.closing_day two.1 i;
      fuel =
          record {
            lng = eqb-true one.fuel.lng other.fuel.lng three.1 i;
            propane = eqb-true one.fuel.propane other.fuel.propane four.1 i;
          };
    }

estimates_equal : (one other : Estimate) → same_estimate one other ≡ true → one ≡ other
estimates_equal one other e =
    let four = and_both e in
    let three = and_both four.0 in
    let two = and_both three.0 in
    λ i. record {
      absent = marks_equal one.absent other.absent two.0 i;
      period = periods_equal one.period other.period two.1 i;
      volume = eqb-true one.volume other.volume three.1 i;
      charged = eqb-true one.charged other.charged four.1 i;
    }

items_equal : (one other : Item) → same_item one other ≡ true → one ≡ other
items_equal one other e =
    let due = and_both e in
    let obligation = and_both due.0 in
    let gathered = and_both obligation.0 in
    let share = and_both gathered.0 in
    let unpaid = and_both share.0 in
    let amount = and_both unpaid.0 in
    λ i. record {
      kind = kinds_equal one.kind other.kind amount.0 i;
      amount = eqb-true one.amount other.amount amount.1 i;
      unpaid = eqb-true one.unpaid other.unpaid unpaid.1 i;
      share = eqb-true one.share other.share share.1 i;
      gathered = eqb-true one.gathered other.gathered gathered.1 i;
      obligation = eqb-true one.obligation other.obligation obligation.1 i;
      due = eqb-true one.due other.due due.1 i;
    }

made_estimates_lem : (estimates : Estimates) → made_estimates estimates ≡ true → estimates ≡ new_account.estimates
unfolding made_estimates
made_estimates_lem estimates e =
    let two = and_both e in
    λ i. record {
      count = eqb-true estimates.count 0 two.0 i;
      periods = same_equal same_estimate estimates_equal estimates.periods new_account.estimates.periods two.1 i;
    }

made_ledger_lem : (ledger : Ledger) → made_ledger ledger ≡ true → ledger ≡ new_account.ledger
unfolding made_ledger
made_ledger_lem ledger e =
    let four = and_both e in
    let three = and_both four.0 in
    let two = and_both three.0 in
    λ i. record {
      count = eqb-true ledger.count 0 two.0 i;
      held = eqb-true ledger.held 0 two.1 i;
      credit = eqb-true ledger.credit 0 three.1 i;
      items = same_equal same_item items_equal ledger.items new_account.ledger.items four.1 i;
    }

made_meter_lem : (a : Account) → made_meter a ≡ true → (a.latest ≡ 0) × (a.meter ≡ new_account.meter)
unfolding made_meter
made_meter_lem a e =
    let five = and_both e in
    let four = and_both five.0 in
    let three = and_both four.0 in
    let two = and_both three.0 in (
      eqb-true a.latest 0 two.0,
      λ i. record {
        digits = eqb-true a.meter.digits 0 two.1 i;
        dial = eqb-true a.meter.dial 0 three.1 i;
        pool = eqb-true a.meter.pool 0 four.1 i;
        basis = eqb-true a.meter.basis 0 five.1 i;
      },
    )

-- A new account, with another status: what every field that is as made comes to.
abbrev pub new_as : Status → Account
new_as status = account_of (head_on (head_of new_account) status 0 new_account.meter 0) new_account.estimates new_account.ledger

abbrev pub Made : Account → Type 0
Made a = a ≡ new_as a.status

pub made_facts : (a : Account) → as_made a ≡ true → Made a
unfolding as_made
made_facts a e =
    let three = and_both e in
    let two = and_both three.0 in
    let meter = made_meter_lem a two.0 in
    λ i. record {
      status = a.status;
      latest = meter.0 i;
      meter = meter.1 i;
      estimates = made_estimates_lem a.estimates two.1 i;
      ledger = made_ledger_lem a.ledger three.1 i;
    }

-- The new account is whole, and a whole one with its status is the new account, in every field and in every place of its arrays.
pub new_whole : whole new_account ≡ true
unfolding whole whole_status as_made made_meter made_estimates made_ledger
new_whole = refl

pub whole_new : (a : Account) → a.status ≡ New → whole a ≡ true → a ≡ new_account
unfolding whole whole_status
whole_new a e w = made_facts a (sym (ap (λ s. whole_status s a) e) ∙ w) ∙ ap new_as e
