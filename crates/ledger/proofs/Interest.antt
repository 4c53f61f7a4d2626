-- How large interest can be, and what bears it. Assumes nothing.
use Rattle.common.proofs.Words.{◌≡◌, refl, ap, Bool, true, false, true≢false, cond, ◌&&◌, ℕ, ◌+◌, ◌-◌, ◌*◌, ◌/◌, ◌%◌, ◌≤◌, min, le_refl, le_trans, mul-le-mul}
use native.Mathlib.Nat.{mul-zero}
use Rattle.common.proofs.Words.{zero-add, sub_self, sub-zero, arith, ltb, le-ltb}
use Rattle.common.proofs.Cases.{by_cond, by_test, cond_most}
use Rattle.tax.specs.Rate.{tax_rate}
use Rattle.tax.proofs.Rate.{at_rate}
use Rattle.ledger.specs.Interest.{is_price, body, body_of, days_late, counted_days, gathered_with, borne, interest_on, interest_in_one_sum}
use Rattle.duedays.specs.Limits.{term}
use Rattle.ledger.specs.Limits.{last_call_day, most_late, most_price, most_gathered, most_arisen, most_borne}
use Rattle.ledger.specs.{declared.Kind.Kind, declared.Kind.TheVariants.Interest, declared.Kind.TheVariants.Price}
use Rattle.ledger.specs.{declared.Item.Item, Settling.reduced, Posting.made, Posting.ItemBounds}

-- The body in lowest terms: 8/108 is 2/27, and 10/110 is 1/11.
pub body_at_eight : (amount obligation : ℕ) → tax_rate obligation ≡ 8
    → body amount obligation ≡ amount - (amount / 27 * 2 + amount % 27 * 2 / 27)
unfolding body
body_at_eight amount obligation e = rw e (omega arith)

pub body_at_ten : (amount obligation : ℕ) → (tax_rate obligation ≡ 8 → ⊥) → body amount obligation ≡ amount - amount / 11
unfolding body
body_at_ten amount =
    at_rate (λ rate. (rate ≡ 8 → ⊥) → amount - amount * rate / (100 + rate) ≡ amount - amount / 11) (λ other. absurd (other refl))
    (λ other. omega arith)

pub body_most : (kind : Kind) (amount obligation : ℕ) → body_of kind amount obligation ≤ amount
unfolding body
body_most Interest amount obligation = omega arith
body_most Price amount obligation = omega arith

no_body : (kind : Kind) (amount obligation : ℕ) → is_price kind ≡ false → body_of kind amount obligation ≡ 0
no_body Interest amount obligation none = refl
no_body Price amount obligation none = absurd (true≢false none)

-- Nothing is gathered up to 10 days late.
pub none_counted : (due day : ℕ) → days_late due day ≤ 10 → counted_days due day ≡ 0
unfolding counted_days
none_counted due day h = rw (le-ltb 10 (days_late due day) h)

counted_most : (due day : ℕ) → counted_days due day ≤ days_late due day
unfolding counted_days
counted_most due day = cond_most (ltb 10 (days_late due day)) (days_late due day)

part_most : (day : ℕ) (item : Item) (money most : ℕ) → days_late item.due day ≤ most
    → min item.share money * counted_days item.due day ≤ min item.share money * most
part_most day item money most h = mul-le-mul (le_refl (min item.share money)) (le_trans (counted_most item.due day) h)

-- Interest bears none, nor does a sum of 0.
pub interest_bears_none : (kind : Kind) (gathered : ℕ) → is_price kind ≡ false → borne kind gathered ≡ 0
unfolding borne
interest_bears_none kind gathered e = rw e

pub none_borne : (kind : Kind) → borne kind 0 ≡ 0
unfolding borne
none_borne kind = by_cond (λ n. n ≡ 0) (is_price kind) (omega arith) refl

borne_most : (kind : Kind) (gathered bound : ℕ) → gathered ≤ bound → borne kind gathered ≤ bound * 274 / 1000000
unfolding borne
borne_most kind gathered bound h = le_trans (cond_most (is_price kind) (gathered * 274 / 1000000)) (omega arith)

-- A bill paid in one sum bears what it bore before parts were counted.
pub in_one_sum : (due day obligation amount : ℕ) (kind : Kind) → let item = made due kind obligation amount amount in
    interest_on item day ≡ interest_in_one_sum item day
unfolding borne counted_days interest_in_one_sum
in_one_sum due day obligation amount kind =
    rw (sub_self amount, sub-zero (body_of kind amount obligation), all, zero-add (body_of kind amount obligation * counted))
    (by_kind kind (ltb 10 (days_late due day)))
  where
    counted : ℕ
    counted = cond (ltb 10 (days_late due day)) (days_late due day) 0

    all : min (body_of kind amount obligation) amount ≡ body_of kind amount obligation
    all = omega (arith, body_most kind amount obligation)

    by_kind : (k : Kind) (late : Bool)
        → cond (is_price k) (body_of k amount obligation * cond late (days_late due day) 0 * 274 / 1000000) 0
        ≡ cond (is_price k && late) (body amount obligation * days_late due day * 274 / 1000000) 0
    by_kind Interest late = refl
    by_kind Price true = refl
    by_kind Price false = rw (mul-zero (body amount obligation))

-- What holds of every item along a list of calls: of its body is unpaid what was not paid, and its sum is at most the body that was
-- paid × the most days late. So interest gathers nothing.
pub record PartFacts (item : Item) : Type 0 where
  pub unpaid_most : item.unpaid ≤ item.amount
  pub price_most : is_price item.kind ≡ true → item.amount ≤ most_price
  pub share_is : item.share ≡ body_of item.kind item.amount item.obligation - (item.amount - item.unpaid)
  pub gathered_most : item.gathered + item.share * most_late ≤ body_of item.kind item.amount item.obligation * most_late
  pub due_least : term ≤ item.due

pub made_facts : (due : ℕ) (kind : Kind) (day amount unpaid : ℕ) → term ≤ due → unpaid ≤ amount
    → (is_price kind ≡ true → amount ≤ most_price) → PartFacts (made due kind day amount unpaid)
made_facts due kind day amount unpaid later h price =
    record { unpaid_most = h; price_most = price; share_is = refl; gathered_most = omega arith; due_least = later }

pub made_bounds : (due : ℕ) (kind : Kind) (day amount unpaid : ℕ) → 1 ≤ unpaid → unpaid ≤ amount → amount ≤ most_price
    → ItemBounds (made due kind day amount unpaid)
made_bounds due kind day amount unpaid some h price =
    let share : body_of kind amount day - (amount - unpaid) ≤ unpaid = omega (arith, body_most kind amount day) in
    record {
      unpaid_least = some;
      unpaid_most = omega arith;
      share_most = share;
      gathered_most = omega arith;
      price_most = λ _. omega arith;
    }

late_most : (day : ℕ) → day ≤ last_call_day → (item : Item) → PartFacts item → days_late item.due day ≤ most_late
late_most day d item w = omega (arith, w.due_least)

pub reduced_facts : (day : ℕ) → day ≤ last_call_day → (item : Item) (money : ℕ) → PartFacts item → money ≤ item.unpaid
    → PartFacts (reduced day item money)
reduced_facts day d item money w h =
    record {
      unpaid_most = omega (arith, w.unpaid_most);
      price_most = w.price_most;
      share_is = omega (arith, w.share_is, w.unpaid_most);
      gathered_most = omega (arith, w.gathered_most, part_most day item money most_late (late_most day d item w));
      due_least = w.due_least;
    }

-- So a sum stays far below 10^14,
gathered_bound : (item : Item) → PartFacts item → item.gathered + item.share * most_late ≤ most_price * most_late
gathered_bound item w =
    by_test (is_price item.kind) (λ price. omega (arith, w.gathered_most, body_most item.kind item.amount item.obligation, w.price_most price))
    (λ none. omega (arith, w.gathered_most, no_body item.kind item.amount item.obligation none))

pub gathered_most : (item : Item) → PartFacts item → item.gathered ≤ most_gathered
gathered_most item w = omega (arith, gathered_bound item w)

-- and the interest of one item, in the range of an account's days, below 10^10:
module _ (item : Item) (day : ℕ) (d : day ≤ last_call_day) where
  pub interest_most : PartFacts item → interest_on item day ≤ most_arisen
  interest_most w =
      let sum : gathered_with day item item.unpaid ≤ most_price * most_late =
      omega (arith, gathered_bound item w, part_most day item item.unpaid most_late (late_most day d item w))
      in
      le_trans (borne_most item.kind (gathered_with day item item.unpaid) (most_price * most_late) sum) (omega arith)

  -- and on any whole account. The last part pays all that is unpaid of the body.
  pub all_paid : ItemBounds item → gathered_with day item item.share ≡ gathered_with day item item.unpaid
  all_paid w =
      let same : min item.share item.share ≡ min item.share item.unpaid = omega (arith, w.share_most) in
      ap (λ n. item.gathered + n * counted_days item.due day) same

  pub sum_most : (money : ℕ) → ItemBounds item → is_price item.kind ≡ true
      → gathered_with day item money ≤ most_gathered + most_price * last_call_day
  sum_most money w price =
      omega (arith, part_most day item money last_call_day (omega arith), w.gathered_most, w.price_most price)

  pub interest_within : ItemBounds item → interest_on item day ≤ most_borne
  interest_within w =
      by_test (is_price item.kind)
      (λ price.
      let most = borne_most item.kind (gathered_with day item item.unpaid) (most_gathered + most_price * last_call_day) (sum_most item.unpaid w price) in
      le_trans most (omega arith))
      (λ none. omega (arith, interest_bears_none item.kind (gathered_with day item item.unpaid) none))
