-- Settling part by part, the oldest item first: article 28.
use mathlib.Core.{Bool.cond, List.List, List.[], List.◌∷◌}
use Rattle.std.specs.Prelude.{ℕ, ◌+◌, ◌-◌}
use lib.{Dec.leb, ListN.length}
use Rattle.lists.specs.Sum.{total}
use Rattle.ledger.specs.{declared.Item.Item, Interest.gathered_with, Interest.interest_on}

-- What settling comes to: the money left, the items still open and the interest that arose.
pub record Settlement : Type 0 where
  pub left : ℕ
  pub open_items : List Item
  pub arisen : ℕ

-- What a part paid on a day leaves of an item: less is unpaid of it, and of its body, not below 0.
abbrev pub reduced : ℕ → Item → ℕ → Item
reduced day item money =
    record {
      amount = item.amount;
      unpaid = item.unpaid - money;
      share = item.share - money;
      gathered = gathered_with day item money;
      obligation = item.obligation;
      due = item.due;
      kind = item.kind;
    }

abbrev pub with_interest : ℕ → Settlement → Settlement
with_interest interest s = record { left = s.left; open_items = s.open_items; arisen = interest + s.arisen }

-- An item that the money covers is settled on this day, with its interest, and the rest of the money goes on to the next; the first
-- that it does not cover is paid in part.
abbrev pub settle : ℕ → ℕ → List Item → Settlement
settle day money [] = record { left = money; open_items = []; arisen = 0 }
settle day money (item ∷ items) =
    cond (leb item.unpaid money)
    (with_interest (interest_on item day) (settle day (money - item.unpaid) items))
    (record { left = 0; open_items = reduced day item money ∷ items; arisen = 0 })

abbrev pub unpaid_of : List Item → ℕ
unpaid_of = total (λ item. item.unpaid)

-- How many items from the front are settled.
abbrev pub settled_count : ℕ → ℕ → List Item → ℕ
settled_count day money items = length items - length (settle day money items).open_items
