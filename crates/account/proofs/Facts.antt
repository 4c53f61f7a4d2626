-- What a whole account keeps to, as facts about its fields. Assumes nothing.
use Rattle.common.proofs.Words.{◌≡◌, refl, ◌⊎◌, Bool, true, false, cond, not, false≢true, List, ℕ, ◌+◌, ◌≤◌, ◌<◌, le_trans, arith, leb, leb-true}
use Rattle.common.proofs.Words.{le-leb, ltb-true, lt-ltb, eqb-true, eq-eqb}
use Rattle.lists.specs.Every.{every, Every}
use Rattle.common.proofs.Tests.{and_both, within_true, within_intro, either_zero, zero_either}
use Rattle.lists.proofs.Every.{every_true, true_every, every_map}
use Rattle.meter.specs.{declared.Estimate.Estimate, Dial.span, Dial.Digits}
use Rattle.ledger.specs.Limits.{last_call_day, capacity, most_price, most_interest, most_gathered, most_credit}
use Rattle.ledger.specs.{declared.Item.Item, declared.Ledger.Ledger, Interest.is_price, Posting.standing}
use Rattle.intake.specs.declared.Status.TheVariants.{New, Supplied, Stopped, Cancelled}
use Rattle.intake.specs.{declared.Status.Status, Limits.most_days, Limits.most_volume, Limits.most_misses}
use Rattle.intake.specs.{Statuses.is_new, Statuses.is_supplied, Statuses.start_of, Heads.EstimateBounds}
use Rattle.account.specs.Whole.{whole_estimate, whole_item, whole_ledger, whole_meter, whole_parts, as_made, whole_status, whole}
use Rattle.account.specs.{declared.Account.Account, Limits.last_due_day, Calls.standing_estimates}
use Rattle.account.proofs.Made.{Made, made_facts}

-- A test of every element as a fact about each, and back.
module _ {A : Type 0} (test : A → Bool) (P : A → Type 0) where
  all_facts : ((x : A) → test x ≡ true → P x) → (xs : List A) → every test xs ≡ true → Every P xs
  all_facts facts xs e = every_map (λ x. test x ≡ true) P facts xs (every_true test xs e)

  all_whole : ((x : A) → P x → test x ≡ true) → (xs : List A) → Every P xs → every test xs ≡ true
  all_whole holds xs w = true_every test xs (every_map P (λ x. test x ≡ true) holds xs w)

-- An estimate.
pub record EstimateFacts (latest : ℕ) (estimate : Estimate) : Type 0 where
  pub bounds : EstimateBounds estimate
  pub closing_most : estimate.period.closing_day ≤ latest

estimate_facts : (latest : ℕ) (estimate : Estimate) → whole_estimate latest estimate ≡ true → EstimateFacts latest estimate
unfolding whole_estimate
estimate_facts latest estimate e =
    let five = and_both e in
    let four = and_both five.0 in
    let three = and_both four.0 in
    let two = and_both three.0 in
    let days = within_true 1 most_days estimate.period.days two.0 in
    record {
      bounds =
          record {
            days_least = days.0;
            days_most = days.1;
            fuel_allowed = two.1;
            volume_most = leb-true _ _ four.1;
            charged_most = leb-true _ _ five.1;
          };
      closing_most = leb-true _ _ three.1;
    }

estimate_whole : (latest : ℕ) (estimate : Estimate) → EstimateFacts latest estimate → whole_estimate latest estimate ≡ true
unfolding whole_estimate
estimate_whole latest estimate w =
    let b = w.bounds in
    let days = within_intro 1 most_days estimate.period.days b.days_least b.days_most in
    rw (days, b.fuel_allowed, le-leb _ _ w.closing_most, le-leb _ _ b.volume_most, le-leb _ _ b.charged_most)

-- Estimates as of a later day.
pub estimates_later : {latest day : ℕ} → latest ≤ day → (estimates : List Estimate) → Every (EstimateFacts latest) estimates
    → Every (EstimateFacts day) estimates
estimates_later {latest} {day} h =
    every_map (EstimateFacts latest) (EstimateFacts day) (λ _ w. record { bounds = w.bounds; closing_most = le_trans w.closing_most h })

-- An item.
pub record ItemFacts (latest : ℕ) (item : Item) : Type 0 where
  pub unpaid_least : 1 ≤ item.unpaid
  pub unpaid_most : item.unpaid ≤ item.amount
  pub price_most : is_price item.kind ≡ true → item.amount ≤ most_price
  pub amount_most : item.amount ≤ most_interest
  pub obligation_most : item.obligation ≤ latest
  pub due_most : item.due ≤ last_due_day
  pub share_most : item.share ≤ item.unpaid
  pub gathered_most : item.gathered ≤ most_gathered

item_facts : (latest : ℕ) (item : Item) → whole_item latest item ≡ true → ItemFacts latest item
unfolding whole_item
item_facts latest item e =
    let six = and_both e in
    let five = and_both six.0 in
    let four = and_both five.0 in
    let three = and_both four.0 in
    let two = and_both three.0 in
    let unpaid = within_true 1 item.amount item.unpaid two.0 in
    let bound = leb-true item.amount (cond (is_price item.kind) most_price most_interest) two.1 in
    record {
      unpaid_least = unpaid.0;
      unpaid_most = unpaid.1;
      price_most = λ p. rw p at bound;
      amount_most = either (is_price item.kind) bound;
      obligation_most = leb-true _ _ three.1;
      due_most = leb-true _ _ four.1;
      share_most = leb-true _ _ five.1;
      gathered_most = leb-true _ _ six.1;
    }
  where
    either : (b : Bool) → item.amount ≤ cond b most_price most_interest → item.amount ≤ most_interest
    either true h = omega arith
    either false h = h

item_whole : (latest : ℕ) (item : Item) → ItemFacts latest item → whole_item latest item ≡ true
unfolding whole_item
item_whole latest item w =
    let unpaid = within_intro 1 item.amount item.unpaid w.unpaid_least w.unpaid_most in
    let days = le-leb _ _ w.obligation_most in
    rw (unpaid, amount (is_price item.kind) refl, days, le-leb _ _ w.due_most, le-leb _ _ w.share_most, le-leb _ _ w.gathered_most)
  where
    amount : (b : Bool) → is_price item.kind ≡ b → leb item.amount (cond (is_price item.kind) most_price most_interest) ≡ true
    amount true e = rw e (le-leb _ _ (w.price_most e))
    amount false e = rw e (le-leb _ _ w.amount_most)

-- The ledger.
pub record LedgerFacts (latest : ℕ) (ledger : Ledger) : Type 0 where
  pub count_most : ledger.count ≤ capacity
  pub items : Every (ItemFacts latest) (standing ledger).open_items
  pub held_most : ledger.held ≤ most_interest
  pub credit_most : ledger.credit ≤ most_credit
  pub credit_or_none : (ledger.credit ≡ 0) ⊎ (ledger.count ≡ 0)

ledger_facts : (latest : ℕ) (ledger : Ledger) → whole_ledger latest ledger ≡ true → LedgerFacts latest ledger
unfolding whole_ledger
ledger_facts latest ledger e =
    let five = and_both e in
    let four = and_both five.0 in
    let three = and_both four.0 in
    let two = and_both three.0 in
    record {
      count_most = leb-true _ _ two.0;
      items = all_facts (whole_item latest) (ItemFacts latest) (item_facts latest) (standing ledger).open_items two.1;
      held_most = leb-true _ _ three.1;
      credit_most = leb-true _ _ four.1;
      credit_or_none = either_zero ledger.credit ledger.count five.1;
    }

ledger_whole : (latest : ℕ) (ledger : Ledger) → LedgerFacts latest ledger → whole_ledger latest ledger ≡ true
unfolding whole_ledger
ledger_whole latest ledger w =
    let items = all_whole (whole_item latest) (ItemFacts latest) (item_whole latest) (standing ledger).open_items w.items in
    let credit = zero_either ledger.credit ledger.count w.credit_or_none in
    rw (le-leb _ _ w.count_most, items, le-leb _ _ w.held_most, le-leb _ _ w.credit_most, credit)

-- The meter and what was estimated.
pub record MeterFacts (a : Account) : Type 0 where
  pub latest_most : a.latest ≤ last_call_day
  pub digits_within : Digits a.meter.digits
  pub dial_within : a.meter.dial < span a.meter.digits
  pub pool_most : a.meter.pool ≤ most_volume
  pub basis_most : a.meter.basis ≤ most_volume
  pub misses_most : a.estimates.count ≤ most_misses
  pub estimates : Every (EstimateFacts a.latest) (standing_estimates a)

meter_facts : (a : Account) → whole_meter a ≡ true → MeterFacts a
unfolding whole_meter
meter_facts a e =
    let seven = and_both e in
    let six = and_both seven.0 in
    let five = and_both six.0 in
    let four = and_both five.0 in
    let three = and_both four.0 in
    let two = and_both three.0 in
    record {
      latest_most = leb-true _ _ two.0;
      digits_within = within_true 4 5 a.meter.digits two.1;
      dial_within = ltb-true _ _ three.1;
      pool_most = leb-true _ _ four.1;
      basis_most = leb-true _ _ five.1;
      misses_most = leb-true _ _ six.1;
      estimates = all_facts (whole_estimate a.latest) (EstimateFacts a.latest) (estimate_facts a.latest) (standing_estimates a) seven.1;
    }

meter_whole : (a : Account) → MeterFacts a → whole_meter a ≡ true
unfolding whole_meter
meter_whole a w =
    let digits = within_intro 4 5 a.meter.digits w.digits_within.0 w.digits_within.1 in
    let pool = le-leb a.meter.pool most_volume w.pool_most in
    let basis = le-leb a.meter.basis most_volume w.basis_most in
    let estimates =
    all_whole (whole_estimate a.latest) (EstimateFacts a.latest) (estimate_whole a.latest) (standing_estimates a) w.estimates in
    rw (le-leb _ _ w.latest_most, digits, lt-ltb _ _ w.dial_within, pool, basis, le-leb _ _ w.misses_most, estimates)

pub estimates_bounded : (a : Account) → MeterFacts a → Every EstimateBounds (standing_estimates a)
estimates_bounded a w = every_map (EstimateFacts a.latest) EstimateBounds (λ _ e. e.bounds) (standing_estimates a) w.estimates

-- An account that is not new.
pub record Facts (a : Account) : Type 0 where
  pub meter : MeterFacts a
  pub ledger : LedgerFacts a.latest a.ledger

-- What its status adds.
abbrev pub StatusFacts : Status → Account → Type 0
StatusFacts New a = as_made a ≡ true
StatusFacts (Supplied start) a = (start ≤ a.latest + 1) × Facts a
StatusFacts (Stopped stop) a = (stop ≤ a.latest) × Facts a
StatusFacts Cancelled a = (a.ledger.held ≡ 0) × Facts a

parts_facts : (a : Account) → whole_parts a ≡ true → Facts a
unfolding whole_parts
parts_facts a e =
    let both = and_both e in
    record { meter = meter_facts a both.0; ledger = ledger_facts a.latest a.ledger both.1 }

parts_whole : (a : Account) → Facts a → whole_parts a ≡ true
unfolding whole_parts
parts_whole a w = rw (meter_whole a w.meter, ledger_whole a.latest a.ledger w.ledger)

-- A whole account has the facts of its status, and one that has them is whole.
status_facts : (status : Status) (a : Account) → whole_status status a ≡ true → StatusFacts status a
unfolding whole_status
status_facts New a e = e
status_facts (Supplied start) a e = let both = and_both e in (leb-true _ _ both.0, parts_facts a both.1)
status_facts (Stopped stop) a e = let both = and_both e in (leb-true _ _ both.0, parts_facts a both.1)
status_facts Cancelled a e = let both = and_both e in (eqb-true _ _ both.0, parts_facts a both.1)

pub whole_facts : (a : Account) → whole a ≡ true → StatusFacts a.status a
unfolding whole
whole_facts a e = status_facts a.status a e

pub facts_whole : (status : Status) (a : Account) → StatusFacts status a → whole_status status a ≡ true
unfolding whole_status
facts_whole New a w = w
facts_whole (Supplied start) a w = rw (le-leb _ _ w.0, parts_whole a w.1)
facts_whole (Stopped stop) a w = rw (le-leb _ _ w.0, parts_whole a w.1)
facts_whole Cancelled a w = rw (eq-eqb _ _ w.0, parts_whole a w.1)

-- What a test of the status gives on a whole account.
pub supplied_facts : (status : Status) (a : Account) → is_supplied status ≡ true → StatusFacts status a
    → (start_of status ≤ a.latest + 1) × Facts a
supplied_facts New a e w = absurd (false≢true e)
supplied_facts (Supplied start) a e w = w
supplied_facts (Stopped stop) a e w = absurd (false≢true e)
supplied_facts Cancelled a e w = absurd (false≢true e)

pub not_new_facts : (status : Status) (a : Account) → not (is_new status) ≡ true → StatusFacts status a → Facts a
not_new_facts New a e w = absurd (false≢true e)
not_new_facts (Supplied start) a e w = w.1
not_new_facts (Stopped stop) a e w = w.1
not_new_facts Cancelled a e w = w.1

pub new_facts : (status : Status) (a : Account) → is_new status ≡ true → StatusFacts status a → Made a
new_facts New a e w = made_facts a w
new_facts (Supplied start) a e w = absurd (false≢true e)
new_facts (Stopped stop) a e w = absurd (false≢true e)
new_facts Cancelled a e w = absurd (false≢true e)
