-- What holds while money covers items, one after another. Assumes nothing.
use Rattle.common.proofs.Words.{List, ℕ, suc, ◌+◌, ◌-◌, ◌*◌, ◌≤◌, ◌<◌, arith, length, get_or}
use Rattle.lists.proofs.Every.{every_at}
use Rattle.ledger.specs.{declared.Item.Item, Limits.most_borne, Interest.interest_on, Posting.blank, Posting.ItemBounds}
use Rattle.ledger.proofs.{Interest.interest_within, Cover.Covering, Cover.covering_first, Cover.covering_next}
use Rattle.lanes.specs.OpenItems.{Coverable}

pub record Covered (items : List Item) (day money left arisen i : ℕ) : Type 0 where
  pub interest : arisen ≤ i * most_borne
  pub covering : Covering items day money left arisen i

pub covered_first : (items : List Item) (day money : ℕ) → Covered items day money money 0 0
covered_first items day money = record { interest = omega arith; covering = covering_first items day money }

module _ {items : List Item} {day : ℕ} (w : Coverable items day) (i : ℕ) (h : i < length items) where
  abbrev item : Item
  item = get_or items i blank

  pub item_within : ItemBounds item
  item_within = every_at ItemBounds items i blank h w.bounds

  pub item_interest : interest_on item day ≤ most_borne
  item_interest = interest_within item day w.day_most item_within

  -- the next item is covered
  pub covered_on : {money left arisen : ℕ} → Covered items day money left arisen i → item.unpaid ≤ left
      → Covered items day money (left - item.unpaid) (arisen + interest_on item day) (suc i)
  covered_on c covers =
      record { interest = omega (arith, c.interest, item_interest); covering = covering_next c.covering h covers }
