-- An entry worked on numbers alone: how many items are open, what is unpaid of them, the credit and interest held.
use Rattle.std.specs.Prelude.{List, [], ◌∷◌, ◌++◌, ℕ, ◌+◌, ◌-◌, ◌*◌, ◌≤◌, ◌<◌}
use mathlib.Core.{Path.◌≡◌, Bool.cond}
use lib.{Dec.leb, Dec.ltb, Dec.eqb, ListN.length, ListN.take, ListN.drop}
use Rattle.ledger.specs.Limits.{capacity, most_price, most_interest, most_borne, most_money, most_credit, lane_places}
use Rattle.ledger.specs.{declared.Kind.Kind, declared.Kind.TheVariants.Interest, declared.Kind.TheVariants.Price}
use Rattle.ledger.specs.{declared.Item.Item, declared.Ledger.Ledger, declared.Coverage.Coverage, Settling.reduced, Settling.unpaid_of}
use Rattle.ledger.specs.{Posting.Standing, Posting.made, Posting.standing, declared.Entry.Entry, declared.Queue.Queue}
use Rattle.ledger.specs.{declared.numbers.Tally.Tally, declared.numbers.Settled.Settled}
use Rattle.ledger.specs.Entries.{closes, charged, limit_number}

-- A tally after a step, and what is paid of the oldest that stays, or unpaid of the item posted (0: none is).
pub record Step : Type 0 where
  pub tally : Tally
  pub part : ℕ

-- An amount is posted: what is over is credit, used in the same call as items are posted. What it does not cover is one more open item.
unfoldable pub posting : Tally → ℕ → Step
posting t amount =
    cond (leb amount t.credit)
    (record { tally = record { count = t.count; owed = t.owed; credit = t.credit - amount }; part = 0 })
    (record { tally = record { count = t.count + 1; owed = t.owed + (amount - t.credit); credit = 0 }; part = amount - t.credit })

-- 28: money settles the items that it covers, the oldest first, and pays a part of the next.
unfoldable pub paying : Tally → ℕ → Coverage → Step
paying t money cover =
    cond (eqb (t.count - cover.covered) 0)
    (record { tally = record { count = 0; owed = 0; credit = cover.left }; part = 0 })
    (record { tally = record { count = t.count - cover.covered; owed = t.owed - money; credit = 0 }; part = cover.left })

-- how large the numbers of a step are
pub record StepMost (step : Step) (count owed : ℕ) : Type 0 where
  pub count_most : step.tally.count ≤ count
  pub owed_most : step.tally.owed ≤ owed

abbrev pub tally_in : Queue → Tally
tally_in q = record { count = q.count; owed = q.owed; credit = q.credit }

-- The steps: what comes in, interest held, the charge, interest that arose.
module _ (q : Queue) (e : Entry) (cover : Coverage) where
  abbrev pub after_paid : Step
  after_paid = paying (tally_in q) (q.credit + e.money) cover

  abbrev pub held_asked : ℕ
  held_asked = cond (closes e) q.held 0

  abbrev pub after_held : Step
  after_held = posting after_paid.tally held_asked

  abbrev pub after_charge : Step
  after_charge = posting after_held.tally (charged e)

  abbrev pub held_on : ℕ
  held_on = q.held - held_asked + cover.arisen

  abbrev pub arisen_asked : ℕ
  arisen_asked = cond e.posts held_on 0

  abbrev pub after_arisen : Step
  after_arisen = posting after_charge.tally arisen_asked

  -- 0, 12 or 13
  unfoldable pub settled_number : ℕ
  settled_number = limit_number after_arisen.tally.count after_arisen.tally.credit

  unfoldable pub settled_by : Settled
  settled_by =
      record {
        queue =
            record {
              front = q.front + cover.covered;
              count = after_arisen.tally.count;
              owed = after_arisen.tally.owed;
              held = held_on - arisen_asked;
              credit = after_arisen.tally.credit;
            };
        paid = after_paid.part;
        held = record { sum = held_asked; unpaid = after_held.part };
        charge = record { sum = charged e; unpaid = after_charge.part };
        arisen = record { sum = arisen_asked; unpaid = after_arisen.part };
      }

  -- no sum overflows
  pub record NumberBounds : Type 0 where
    pub front_most : q.front ≤ lane_places
    pub count_most : q.count ≤ capacity
    pub owed_most : q.owed ≤ capacity * most_interest
    pub held_most : q.held ≤ most_interest
    pub credit_most : q.credit ≤ most_credit
    pub money_most : e.money ≤ most_money
    pub charge_most : charged e ≤ most_price
    pub covered_most : cover.covered ≤ q.count
    pub arisen_most : cover.arisen ≤ capacity * most_borne
    pub owed_least : cover.covered < q.count → q.credit + e.money ≤ q.owed

-- The items behind it: the oldest that stays less what is paid of it, then each posted item of which something is unpaid.
abbrev pub less_paid : ℕ → ℕ → List Item → List Item
less_paid day part [] = []
less_paid day part (item ∷ items) = reduced day item part ∷ items

unfoldable pub taken_up : ℕ → ℕ
taken_up unpaid = cond (ltb 0 unpaid) 1 0

unfoldable pub posted : ℕ → Kind → ℕ → ℕ → ℕ → List Item
posted due kind day amount unpaid = cond (ltb 0 unpaid) (made due kind day amount unpaid ∷ []) []

abbrev pub items_after : ℕ → ℕ → Settled → List Item → List Item
items_after due day r rest =
    ((less_paid day r.paid rest ++ posted due Interest day r.held.sum r.held.unpaid) ++
    posted due Price day r.charge.sum r.charge.unpaid) ++
    posted due Interest day r.arisen.sum r.arisen.unpaid

-- So many, with the places that what is posted takes up.
abbrev pub with_posted : Settled → ℕ → ℕ
with_posted r n = n + taken_up r.held.unpaid + taken_up r.charge.unpaid + taken_up r.arisen.unpaid

-- A queue of the numbers of what stands, from this place on.
abbrev pub queue_of : ℕ → Standing → Queue
queue_of front s =
    record { front = front; count = length s.open_items; owed = unpaid_of s.open_items; held = s.held; credit = s.credit }

-- The numbers of a ledger, its items at the front, and the ledger of a queue whose items are gathered there.
abbrev pub queue_in : Ledger → Queue
queue_in ledger =
    record { front = 0; count = ledger.count; owed = unpaid_of (standing ledger).open_items; held = ledger.held; credit = ledger.credit }

abbrev pub ledger_of : Queue → List Item → Ledger
ledger_of q items = record { count = q.count; items = items; held = q.held; credit = q.credit }

-- The items of a part, from its front and as many as it counts.
abbrev pub part : ℕ → ℕ → List Item → List Item
part front count items = take count (drop front items)

-- What stands on a queue that lies among these items.
abbrev pub lying : List Item → Queue → Standing
lying items q = record { open_items = part q.front q.count items; credit = q.credit; held = q.held }

-- A queue that lies among so many places, and what it owes.
pub record Lies (items : List Item) (q : Queue) : Type 0 where
  pub long : length items ≡ lane_places
  pub end_most : q.front + q.count ≤ lane_places
  pub owed_is : q.owed ≡ unpaid_of (lying items q).open_items
