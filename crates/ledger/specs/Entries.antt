-- What a call asks of the ledger, in one entry: money that comes in, and what a closing posts.
use mathlib.Core.{Bool.Bool, Bool.cond, List.List, List.◌++◌}
use Rattle.std.specs.Prelude.{ℕ, ◌+◌, ◌≤◌, is_some, unwrap_or}
use lib.{Dec.leb, Dec.eqb, ListN.length}
use Rattle.lists.specs.Every.{Every}
use Rattle.ledger.specs.Limits.{last_call_day, capacity, most_price, most_interest, most_money, most_credit}
use Rattle.ledger.specs.Posting.{Standing, entered, post, none_held, paid, held_posted, ItemBounds}
use Rattle.ledger.specs.{declared.Kind.TheVariants.Interest, declared.Kind.TheVariants.Price, declared.Entry.Entry}

-- An entry closes where it has a charge; where it has none, nothing is charged.
abbrev pub closes : Entry → Bool
closes e = is_some e.charge

abbrev pub charged : Entry → ℕ
charged e = unwrap_or e.charge 0

-- A closing first posts interest held, if any, as an item, then a charge as a price item. Money, a payment or a net below zero, settles the oldest item first.
unfoldable pub taken : List ℕ → Entry → Standing → Standing
taken holidays e s =
    cond (closes e)
    (post e.day e.money (entered holidays Interest e.day s.held ++ entered holidays Price e.day (charged e)) (none_held s))
    (paid e.day e.money s)

-- On a cancelled account, interest is posted by the call that brings it, as one last item of the call's total.
unfoldable pub asked : List ℕ → Entry → Standing → Standing
asked holidays e s = cond e.posts (held_posted holidays e.day (taken holidays e s)) (taken holidays e s)

-- 12: more than 72 items would be open when the call ends. 13: credit after the call above 999,999,999.
abbrev pub limit_number : ℕ → ℕ → ℕ
limit_number count credit = cond (leb count capacity) (cond (leb credit most_credit) 0 13) 12

abbrev pub number_of : Standing → ℕ
number_of s = limit_number (length s.open_items) s.credit

-- An entry that is refused changes nothing.
abbrev pub next : List ℕ → Entry → Standing → Standing
next holidays e s = cond (eqb (number_of (asked holidays e s)) 0) (asked holidays e s) s

-- The interest that an entry posts: what was held, where it closes, and what arose, where it posts that.
abbrev pub interest_posted : List ℕ → Entry → Standing → ℕ
interest_posted holidays e s = cond (closes e) s.held 0 + cond e.posts (taken holidays e s).held 0

pub record EntryBounds (e : Entry) : Type 0 where
  pub day_most : e.day ≤ last_call_day
  pub money_most : e.money ≤ most_money
  pub charge_most : charged e ≤ most_price

-- What is known of every whole account's ledger: enough for one entry.
pub record Within (s : Standing) : Type 0 where
  pub count_most : length s.open_items ≤ capacity
  pub items_within : Every ItemBounds s.open_items
  pub held_most : s.held ≤ most_interest
  pub credit_most : s.credit ≤ most_credit
