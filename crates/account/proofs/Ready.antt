-- What a whole account lends to a call: a head, estimates and a ledger within their bounds. Assumes nothing.
use Rattle.common.proofs.Words.{◌≡◌, refl, sym, ap, subst, ◌∙◌, true, ℕ, ◌≤◌, le_trans, arith, length}
use Rattle.lists.specs.Every.{Every}
use Rattle.lists.proofs.{Every.every_map, Pad.length_take_most}
use Rattle.ledger.specs.Posting.{Standing, standing, stored, ItemBounds, OpenBounds}
use Rattle.ledger.specs.{declared.Item.Item, declared.Ledger.Ledger, Limits.capacity, Entries.Within}
use Rattle.ledger.proofs.Bounds.{standing_stored}
use Rattle.intake.specs.declared.Status.TheVariants.{New, Supplied, Stopped, Cancelled}
use Rattle.intake.specs.{declared.Status.Status, Limits.most_misses, Limits.most_volume}
use Rattle.intake.specs.Heads.{HeadBounds, EstimateBounds, EstimatesFit}
use Rattle.account.specs.{declared.Account.Account, Calls.head_of, Calls.standing_estimates, Whole.whole}
use Rattle.account.proofs.Facts.{ItemFacts, Facts, StatusFacts, estimates_bounded, whole_facts, supplied_facts}
use Rattle.account.proofs.Made.{new_as, made_facts}

item_bounds : (latest : ℕ) (item : Item) → ItemFacts latest item → ItemBounds item
item_bounds latest item w =
    record {
      unpaid_least = w.unpaid_least;
      unpaid_most = le_trans w.unpaid_most w.amount_most;
      share_most = w.share_most;
      gathered_most = w.gathered_most;
      price_most = λ price. omega (arith, w.share_most, w.unpaid_most, w.price_most price);
    }

-- What holds of a whole account by its status, and of a new one by what it was made with.
record Kept (a : Account) : Type 0 where
  pub count_most : a.ledger.count ≤ capacity
  pub within : Within (standing a.ledger)
  pub basis_most : a.meter.basis ≤ most_volume
  pub misses_most : a.estimates.count ≤ most_misses
  pub estimates : Every EstimateBounds (standing_estimates a)

new_kept : (status : Status) → Kept (new_as status)
new_kept status = omega arith

facts_kept : (a : Account) → Facts a → Kept a
facts_kept a w =
    let ledger = a.ledger in
    let each = every_map (ItemFacts a.latest) ItemBounds (item_bounds a.latest) (standing ledger).open_items in
    record {
      count_most = w.ledger.count_most;
      within =
          record {
            count_most = omega (arith, length_take_most ledger.count ledger.items, w.ledger.count_most);
            items_within = each w.ledger.items;
            held_most = w.ledger.held_most;
            credit_most = w.ledger.credit_most;
          };
      basis_most = w.meter.basis_most;
      misses_most = w.meter.misses_most;
      estimates = estimates_bounded a w.meter;
    }

module _ (a : Account) (e : whole a ≡ true) where
  kept : Kept a
  kept = go a.status (whole_facts a e)
    where
      go : (status : Status) → StatusFacts status a → Kept a
      go New w = subst Kept (sym (made_facts a w)) (new_kept a.status)
      go (Supplied start) w = facts_kept a w.1
      go (Stopped stop) w = facts_kept a w.1
      go Cancelled w = facts_kept a w.1

  pub count_most : a.ledger.count ≤ capacity
  count_most = kept.count_most

  pub whole_within : Within (standing a.ledger)
  whole_within = kept.within

  pub open_bounds : OpenBounds a.ledger
  open_bounds = record { count_most = count_most; items_within = whole_within.items_within }

  pub head_bounds : HeadBounds (head_of a)
  head_bounds =
      record {
        basis_most = kept.basis_most;
        supplied = λ t. let known = supplied_facts a.status a t (whole_facts a e) in search;
      }

  pub misses_most : a.estimates.count ≤ most_misses
  misses_most = kept.misses_most

  pub estimates_within : Every EstimateBounds (standing_estimates a)
  estimates_within = kept.estimates

  pub estimates_fit : length a.estimates.periods ≡ most_misses → EstimatesFit (head_of a) a.estimates
  estimates_fit long = record { count_is = refl; few = misses_most; long = long; within = estimates_within }

-- What stands on a whole account is within bounds: a caller that knows its account whole needs to know nothing else of its items.
pub whole_lying : (a : Account) (s : Standing) → a.ledger ≡ stored s → whole a ≡ true → Within s
whole_lying a s is e =
    let few : length s.open_items ≤ capacity = subst (λ (l : Ledger). l.count ≤ capacity) is (count_most a e) in
    subst Within (ap standing is ∙ standing_stored s few) (whole_within a e)
