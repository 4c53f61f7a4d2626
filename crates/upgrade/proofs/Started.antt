-- Items that start with their parts keep an account whole. Assumes nothing.
use Rattle.common.proofs.Words.{◌≡◌, refl, sym, ap, subst, true, List, [], ◌∷◌, map, ℕ, ◌-◌, ◌≤◌, arith, length-map, take}
use Rattle.lists.specs.Every.{Every}
use Rattle.lists.proofs.Every.{every_map}
use Rattle.intake.specs.{declared.Call.Call}
use Rattle.audit.specs.Claim.{start, run}
use Rattle.audit.proofs.Theorem.{parts_kept}
use Rattle.ledger.specs.{declared.Item.Item, Interest.body_of, Posting.standing}
use Rattle.ledger.proofs.Interest.{PartFacts, body_most}
use Rattle.intake.specs.declared.Status.TheVariants.{New, Supplied, Stopped, Cancelled}
use Rattle.intake.specs.{declared.Status.Status}
use Rattle.account.specs.{declared.Account.Account, Whole.whole}
use Rattle.account.proofs.Facts.{ItemFacts, Facts, StatusFacts, whole_facts, facts_whole}
use Rattle.account.proofs.Made.{made_facts}
use Rattle.upgrade.proofs.Places.{take_exchanged, drop_exchanged}
use Rattle.upgrade.specs.Parts.{started, without_parts, with_items, with_parts, kept_before}

-- What is known of an item without its parts is known of it with them.
started_facts : (latest : ℕ) (item : Item) → ItemFacts latest (without_parts item) → ItemFacts latest (started item)
started_facts latest item w =
    let share : body_of item.kind item.amount item.obligation - (item.amount - item.unpaid) ≤ item.unpaid =
    omega (arith, body_most item.kind item.amount item.obligation, w.unpaid_most)
    in
    record {
      unpaid_least = w.unpaid_least;
      unpaid_most = w.unpaid_most;
      price_most = w.price_most;
      amount_most = w.amount_most;
      obligation_most = w.obligation_most;
      due_most = w.due_most;
      share_most = share;
      gathered_most = omega arith;
    }

all_started : (latest : ℕ) (items : List Item) → Every (ItemFacts latest) (map without_parts items)
    → Every (ItemFacts latest) (map started items)
all_started latest [] w = tt
all_started latest (item ∷ items) w = (started_facts latest item w.0, all_started latest items w.1)

module _ (a : Account) where
  abbrev items : List Item
  items = (standing a.ledger).open_items

  abbrev before : Account
  before = kept_before a

  open_with : (f : Item → Item) → (standing (with_items a (map f items)).ledger).open_items ≡ map f items
  open_with f = take_exchanged a.ledger.count a.ledger.items (map f items) (length-map items f)

  facts_after : Facts before → Facts (with_parts a)
  unfolding with_parts
  facts_after w =
      let l = w.ledger in
      record {
        meter = let m = w.meter in search;
        ledger =
            record {
              count_most = l.count_most;
              items = rw (open_with started) (all_started a.latest items (rw (open_with without_parts) at l.items));
              held_most = l.held_most;
              credit_most = l.credit_most;
              credit_or_none = l.credit_or_none;
            };
      }

  -- Of a new account nothing starts.
  none_of_new : a.ledger.count ≡ 0 → with_parts a ≡ before
  unfolding with_parts
  none_of_new e =
      let none : items ≡ [] = ap (λ n. take n a.ledger.items) e in
      rw none refl

  status_facts : (status : Status) → StatusFacts status before → StatusFacts status (with_parts a)
  unfolding with_parts
  status_facts New w =
      let count : a.ledger.count ≡ 0 = ap (λ (x : Account). x.ledger.count) (made_facts before w) in
      subst (StatusFacts New) (sym (none_of_new count)) w
  status_facts (Supplied _) w = (w.0, facts_after w.1)
  status_facts (Stopped _) w = (w.0, facts_after w.1)
  status_facts Cancelled w = (w.0, facts_after w.1)

  -- An account kept from before that is whole stays whole.
  pub keeps_whole : whole before ≡ true → whole (with_parts a) ≡ true
  unfolding whole with_parts
  keeps_whole e = facts_whole a.status (with_parts a) (status_facts a.status (whole_facts before e))

  -- It goes by nothing that stood in their places.
  pub started_again : with_parts before ≡ with_parts a
  unfolding with_parts
  started_again =
      let behind = drop_exchanged a.ledger.count a.ledger.items (map without_parts items) (length-map items without_parts) in
      rw (open_with without_parts, behind, forgotten items) refl
    where
      forgotten : (xs : List Item) → map started (map without_parts xs) ≡ map started xs
      forgotten [] = refl
      forgotten (x ∷ xs) = ap (started x ∷◌) (forgotten xs)

-- Of every account that a list reaches the body shares are given back.
pub shares_given_back : (holidays : List ℕ) (calls : List Call)
    → Every (λ item. (started item).share ≡ item.share) (standing (run holidays start calls).account.ledger).open_items
shares_given_back holidays calls =
    every_map PartFacts (λ item. (started item).share ≡ item.share) (λ item w. sym w.share_is)
    (standing (run holidays start calls).account.ledger).open_items (parts_kept holidays calls)
