-- The open items of a ledger among the places of an array.
use Rattle.std.specs.Prelude.{List, ℕ, ◌+◌, ◌≤◌, ◌<◌, length, get_or}
use Rattle.lists.specs.Every.{Every}
use Rattle.ledger.specs.{declared.Item.Item, declared.Queue.Queue, declared.numbers.Settled.Settled}
use Rattle.ledger.specs.{Limits.capacity, Limits.most_end, Limits.last_call_day, Posting.blank, Posting.ItemBounds, Numbers.Lies}

-- A queue lies among the places, with room behind it for the three items that an entry posts at most.
pub record Kept (items : List Item) (q : Queue) : Type 0 where
  pub lies : Lies items q
  pub few : q.count ≤ capacity
  pub room : q.front + q.count ≤ most_end

-- Money can cover these items, on a day.
pub record Coverable (items : List Item) (day : ℕ) : Type 0 where
  pub few : length items ≤ capacity
  pub day_most : day ≤ last_call_day
  pub bounds : Every ItemBounds items

-- What is settled of items up to an end can be stored: the oldest that stays owes what is paid of it, and is within its bounds.
pub record Storable (items : List Item) (oldest end : ℕ) (r : Settled) : Type 0 where
  pub in_order : oldest ≤ end
  pub room : end ≤ most_end
  pub owes : r.paid ≤ (get_or items oldest blank).unpaid
  pub bounds : 0 < r.paid → ItemBounds (get_or items oldest blank)
