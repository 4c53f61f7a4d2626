-- Posting: closings, payments and credit. Money is yen.
use Rattle.std.specs.Prelude.{◌≡◌, ◌⊎◌, cond, true, List, [], ◌∷◌, ◌++◌, ℕ, suc, ◌+◌, ◌-◌, ◌≤◌, ltb, ℤ, pos, negsuc, length, take}
use Rattle.lists.specs.Pad.{pad}
use Rattle.duedays.specs.DueDays.{due_day}
use Rattle.lists.specs.Every.{Every}
use Rattle.ledger.specs.declared.Kind.{Kind}
use Rattle.ledger.specs.declared.Kind.TheVariants.{Interest, Price}
use Rattle.ledger.specs.declared.Item.{Item}
use Rattle.ledger.specs.declared.Ledger.{Ledger}
use Rattle.ledger.specs.declared.Coverage.{Coverage}
use Rattle.ledger.specs.Limits.{capacity, most_price, most_interest, most_gathered, most_money}
use Rattle.ledger.specs.Interest.{is_price, body_of}
use Rattle.ledger.specs.Settling.{Settlement, settle, settled_count, unpaid_of}

-- What stands on a ledger: the open items, oldest first, the credit balance, and interest held until the next closing.
pub record Standing : Type 0 where
  pub open_items : List Item
  pub credit : ℕ
  pub held : ℕ

-- An item of a day and a due day, with what is unpaid of it, nothing paid late: of its body what is paid is taken off, not below 0.
-- Of a new one all is unpaid, and its due day goes by the list of closed days.
abbrev pub made : ℕ → Kind → ℕ → ℕ → ℕ → Item
made due kind day amount unpaid =
    record {
      amount = amount;
      unpaid = unpaid;
      share = body_of kind amount day - (amount - unpaid);
      gathered = 0;
      obligation = day;
      due = due;
      kind = kind;
    }

abbrev pub new_item : List ℕ → Kind → ℕ → ℕ → Item
new_item holidays kind day amount = made (due_day holidays day) kind day amount amount

-- An amount above zero is posted as an item.
unfoldable pub entered : List ℕ → Kind → ℕ → ℕ → List Item
entered holidays kind day amount = cond (ltb 0 amount) (new_item holidays kind day amount ∷ []) []

-- 20(1): the net of a closing by its sign. Above zero it is charged, below zero it is credited.
abbrev pub charge_of : ℤ → ℕ
charge_of (pos n) = n
charge_of (negsuc n) = 0

abbrev pub credit_of : ℤ → ℕ
credit_of (pos n) = 0
credit_of (negsuc n) = suc n

-- What settling a standing with this money, and these items posted, comes to. What is over is credit, and the interest that arises is held.
abbrev pub settled_with : Standing → Settlement → Standing
settled_with s done = record { open_items = done.open_items; credit = done.left; held = s.held + done.arisen }

unfoldable pub post : ℕ → ℕ → List Item → Standing → Standing
post day money items s = settled_with s (settle day (s.credit + money) (s.open_items ++ items))

abbrev pub none_held : Standing → Standing
none_held s = record { open_items = s.open_items; credit = s.credit; held = 0 }

-- A closing posts interest held, if any, then a net above zero; a net below zero adds to credit.
unfoldable pub closed : List ℕ → ℕ → ℤ → Standing → Standing
closed holidays day net s =
    post day (credit_of net) (entered holidays Interest day s.held ++ entered holidays Price day (charge_of net)) (none_held s)

-- A payment settles the oldest items first.
unfoldable pub paid : ℕ → ℕ → Standing → Standing
paid day yen s = post day yen [] s

-- Interest held is posted by itself: by 0a, and on a cancelled account by each call that brings some, as one last item of the call's total.
unfoldable pub held_posted : List ℕ → ℕ → Standing → Standing
held_posted holidays day s = post day 0 (entered holidays Interest day s.held) (none_held s)

-- What a place of the array without an item holds.
abbrev pub blank : Item
blank = record { amount = 0; unpaid = 0; share = 0; gathered = 0; obligation = 0; due = 0; kind = Interest }

-- What stands on a ledger as the account holds it.
abbrev pub standing : Ledger → Standing
standing ledger = record { open_items = take ledger.count ledger.items; credit = ledger.credit; held = ledger.held }

-- The array has 72 places; number 12 declines a call that would leave more items open.
abbrev pub stored : Standing → Ledger
stored s =
    record { count = length s.open_items; items = pad capacity blank (take capacity s.open_items); held = s.held; credit = s.credit }

-- A ledger that holds what stands on it and blanks behind it. Every call from a new account leaves it so.
abbrev pub Tidy : Ledger → Type 0
Tidy ledger = ledger ≡ stored (standing ledger)

-- As many items from the front as the money covers, what is left of it for the next, and the interest that they bring.
unfoldable pub coverage : ℕ → ℕ → List Item → Coverage
coverage day money items =
    record {
      covered = settled_count day money items;
      left = money - unpaid_of (take (settled_count day money items) items);
      arisen = (settle day money items).arisen;
    }

-- What the code needs to know of an item and of a ledger, so that no sum overflows.
pub record ItemBounds (item : Item) : Type 0 where
  pub unpaid_least : 1 ≤ item.unpaid
  pub unpaid_most : item.unpaid ≤ most_interest
  pub share_most : item.share ≤ item.unpaid
  pub gathered_most : item.gathered ≤ most_gathered
  pub price_most : is_price item.kind ≡ true → item.share ≤ most_price

pub record OpenBounds (ledger : Ledger) : Type 0 where
  pub count_most : ledger.count ≤ capacity
  pub items_within : Every ItemBounds (take ledger.count ledger.items)

-- A net that no closing exceeds.
abbrev pub NetBounds : ℤ → Type 0
NetBounds net = (charge_of net ≤ most_price) × (credit_of net ≤ most_money)

-- A standing that has settled what it can: what is left is 0 or nothing is open, and no open item is at 0.
pub record Ready (s : Standing) : Type 0 where
  pub settled : (s.credit ≡ 0) ⊎ (s.open_items ≡ [])
  pub none_at_zero : Every (λ item. 1 ≤ item.unpaid) s.open_items
