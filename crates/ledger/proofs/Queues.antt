-- An entry worked on a queue where its items lie: what holds before it and after it. Assumes nothing.
use Rattle.common.proofs.Words.{◌≡◌, refl, sym, ap, ◌∙◌, cond, List, [], ◌∷◌, ℕ, ◌+◌, ◌-◌, ◌≤◌, ◌<◌, arith, length, get_or}
use Rattle.common.proofs.Words.{take, drop, length-append, length-drop, length-take-le, take_all, take-take, eq-eqb, ne_eqb}
use Rattle.lists.specs.{Pad.pad}
use Rattle.common.proofs.Cases.{cond_most}
use Rattle.lists.proofs.Every.{every_at}
use Rattle.duedays.specs.DueDays.{due_day}
use Rattle.ledger.specs.Limits.{capacity, most_owed, lane_places, most_end}
use Rattle.ledger.specs.Posting.{Standing, coverage, blank, stored, standing, ItemBounds}
use Rattle.ledger.specs.Entries.{closes, asked, number_of, next, interest_posted, EntryBounds, Within}
use Rattle.ledger.specs.Numbers.{settled_number, settled_by, NumberBounds, less_paid, items_after, queue_of, with_posted, part, queue_in, ledger_of, lying}
use Rattle.ledger.specs.Numbers.{Lies}
use Rattle.ledger.specs.{declared.Item.Item, declared.Ledger.Ledger}
use Rattle.ledger.specs.{declared.Coverage.Coverage, declared.Entry.Entry, declared.Queue.Queue}
use Rattle.ledger.specs.{declared.numbers.Settled.Settled, Settling.unpaid_of}
use Rattle.ledger.proofs.Cover.{covered_most, arisen_within}
use Rattle.ledger.proofs.Entries.{taken_known, asked-known, queue_is, number_is}
use Rattle.ledger.proofs.Places.{at_is, part_later, length_posted, taken_up_most}
use Rattle.ledger.proofs.{Tallies.Asking, Tallies.money_short, Tallies.paid_within, Tallies.paid_stays}
use Rattle.ledger.proofs.Within.{owing, owed_most, number_passes}

pub part_count : {items : List Item} {q : Queue} → Lies items q → length (part q.front q.count items) ≡ q.count
part_count {items} {q} w =
    length-take-le q.count (drop q.front items) (rw (length-drop q.front items) (omega (arith, w.long, w.end_most)))

numbers_are : {items : List Item} {q : Queue} → Lies items q → q ≡ queue_of q.front (lying items q)
numbers_are {items} {q} w = λ i.
    record { front = q.front; count = sym (part_count w) i; owed = w.owed_is i; held = q.held; credit = q.credit }

length_less : (day paid : ℕ) (items : List Item) → length (less_paid day paid items) ≡ length items
length_less day paid [] = refl
length_less day paid (item ∷ items) = refl

items_count : (due day : ℕ) (r : Settled) (rest : List Item) → length (items_after due day r rest) ≡ with_posted r (length rest)
items_count due day r rest = simp (length-append, length_less, length_posted) (omega arith)

-- An entry at a queue that lies among items, and what its money covers of them.
pub record Entering : Type 0 where
  pub holidays : List ℕ
  pub items : List Item
  pub queue : Queue
  pub entry : Entry
  pub cover : Coverage
  pub lies : Lies items queue
  pub within : Within (lying items queue)
  pub room : queue.front + queue.count ≤ most_end
  pub bounds : EntryBounds entry
  pub covers : cover ≡ coverage entry.day (queue.credit + entry.money) (part queue.front queue.count items)

module _ (k : Entering) where
  open k use {items, queue as q, entry as e, cover, lies, within, room, bounds as b, covers}

  abbrev pub stood : Standing
  stood = lying items q

  asking : Asking e stood cover
  asking = record { owing = owing stood.open_items within.items_within; covers = covers }

  pub covered_within : cover.covered ≤ q.count
  covered_within = rw covers (omega (arith, covered_most e.day (q.credit + e.money) stood.open_items, part_count lies))

  -- what settling on numbers requires
  pub settle_bounds : NumberBounds q e cover
  settle_bounds =
      let many = within.count_most in
      let owes = within.items_within in
      record {
        front_most = omega (arith, room);
        count_most = omega (arith, many, part_count lies);
        owed_most = omega (arith, lies.owed_is, owed_most stood.open_items owes, many);
        held_most = within.held_most;
        credit_most = within.credit_most;
        money_most = b.money_most;
        charge_most = b.charge_most;
        covered_most = covered_within;
        arisen_most =
            let most = arisen_within e.day (q.credit + e.money) stood.open_items b.day_most owes in
            rw covers (omega (arith, most, many));
        owed_least = λ l. rw lies.owed_is (money_short asking (rw (part_count lies) l));
      }

  -- the numbers refuse what the definition refuses
  pub refusal_is : settled_number q e cover ≡ number_of (asked k.holidays e stood)
  refusal_is = ap (λ (x : Queue). settled_number x e cover) (numbers_are lies) ∙ number_is k.holidays asking q.front

-- And what is settled by it.
pub record Settling : Type 0 where
  pub entering : Entering
  pub settled : Settled
  pub settles : settled ≡ settled_by entering.queue entering.entry entering.cover

module _ (k : Settling) where
  open k use {settled as r, settles}
  open k.entering use {holidays, items, queue as q, entry as e, cover, lies, within, room, bounds as b, covers}

  abbrev s : Standing
  s = lying items q

  -- The oldest item that stays lies here, and so many stay.
  abbrev pub oldest : ℕ
  oldest = q.front + cover.covered

  abbrev pub staying : ℕ
  staying = q.front + q.count - oldest

  abbrev rest : List Item
  rest = part oldest staying items

  rest_is : rest ≡ drop cover.covered s.open_items
  rest_is =
      let count : staying ≡ q.count - cover.covered = omega arith in
      rw count (part_later q.front q.count cover.covered items)

  -- and what is posted behind them has one due day
  abbrev pub due : ℕ
  due = due_day holidays e.day

  -- the numbers of the queue are those of what stands
  settled_is : r ≡ settled_by (queue_of q.front s) e cover
  settled_is = settles ∙ ap (λ (x : Queue). settled_by x e cover) (numbers_are lies)

  queue_of_lem : r.queue ≡ queue_of oldest (asked holidays e s)
  queue_of_lem = rw settled_is (queue_is holidays (asking k.entering) q.front)

  pub front_is : r.queue.front ≡ oldest
  front_is = ap (λ (x : Queue). x.front) queue_of_lem

  items_of : (asked holidays e s).open_items ≡ items_after due e.day r rest
  items_of = rw (rest_is, settled_is) (asked-known holidays (asking k.entering) q.front).items_are

  -- the oldest item that stays is paid no more than it owes
  pub oldest_within : r.paid ≤ (get_or items oldest blank).unpaid
  unfolding settled_by
  oldest_within = rw settled_is (paid_within (asking k.entering) (get_or items oldest blank).unpaid same)
    where
      same : cover.covered < length s.open_items → (get_or items oldest blank).unpaid ≡ (get_or s.open_items cover.covered blank).unpaid
      same l = rw (at_is items q.front q.count cover.covered (rw (part_count lies) at l))

  -- and is within its bounds, where some is paid of it
  pub oldest_bounds : 0 < r.paid → ItemBounds (get_or items oldest blank)
  unfolding settled_by
  oldest_bounds some =
      let stays = paid_stays (asking k.entering) (rw settled_is at some) in
      let same = at_is items q.front q.count cover.covered (rw (part_count lies) at stays) in
      rw same at (every_at ItemBounds s.open_items cover.covered blank stays within.items_within)

  -- how many items are open behind it
  count_after : length (asked holidays e s).open_items ≡ with_posted r staying
  count_after =
      let many = items_count due e.day r rest in
      omega (arith, ap length items_of, many, ap length rest_is, length-drop cover.covered s.open_items, part_count lies)

  -- the place behind the last item
  pub end_is : r.queue.front + r.queue.count ≡ with_posted r (q.front + q.count)
  end_is = rw queue_of_lem (omega (arith, count_after, covered_within k.entering))

  -- One law: where the items of an array are those that the numbers say, they are those of the definition.
  abbrev pub After : List Item → Type 0
  After xs = part oldest (with_posted r staying) xs ≡ items_after due e.day r rest

  pub after_stands : (xs : List Item) → After xs → lying xs r.queue ≡ asked holidays e s
  after_stands xs is =
      let same = rw (← count_after) at is ∙ sym items_of in
      rw queue_of_lem (λ i. record { open_items = same i; credit = (asked holidays e s).credit; held = (asked holidays e s).held })

  -- and the queue lies among them
  pub after_lies : (xs : List Item) → length xs ≡ lane_places → After xs → Lies xs r.queue
  after_lies xs long is =
      record {
        long = long;
        end_most = omega (arith, room, end_is, taken_up_most r.held.unpaid, taken_up_most r.charge.unpaid, taken_up_most r.arisen.unpaid);
        owed_is = ap (λ (x : Queue). x.owed) queue_of_lem ∙ sym (ap (λ (x : Standing). unpaid_of x.open_items) (after_stands xs is));
      }

  -- an entry that is accepted leaves no more open than the queue has places
  pub few_after : number_of (asked holidays e s) ≡ 0 → r.queue.count ≤ capacity
  few_after z =
      rw queue_of_lem (number_passes (length (asked holidays e s).open_items) (asked holidays e s).credit z).count_most

  -- the interest that the numbers post
  abbrev pub interest : ℕ
  interest = r.held.sum + r.arisen.sum

  pub interest_is : interest ≡ interest_posted holidays e s
  unfolding settled_by
  interest_is = rw (settles, (taken_known holidays (asking k.entering) q.front).held_is)

  pub interest_fits : interest ≤ most_owed
  unfolding settled_by
  interest_fits =
      let bounds = settle_bounds k.entering in
      let first = cond_most (closes e) q.held in
      let second = cond_most e.posts (q.held - cond (closes e) q.held 0 + cover.arisen) in
      rw settles (omega (arith, first, second, bounds.held_most, bounds.arisen_most))

-- What is gathered is what stands.
pub gathered_is : {items : List Item} {q : Queue} → Lies items q → q.count ≤ capacity
    → ledger_of q (pad capacity blank (part q.front q.count items)) ≡ stored (lying items q)
gathered_is {items} {q} w few =
    rw (take_all capacity (part q.front q.count items) (omega (arith, few, part_count w)), part_count w)

-- What follows an entry that is accepted, and one that is refused.
module _ (holidays : List ℕ) (e : Entry) (s : Standing) where
  pub next_asked : number_of (asked holidays e s) ≡ 0 → next holidays e s ≡ asked holidays e s
  next_asked z = rw (eq-eqb (number_of (asked holidays e s)) 0 z)

  pub next_same : (number_of (asked holidays e s) ≡ 0 → ⊥) → next holidays e s ≡ s
  next_same z = rw (ne_eqb (number_of (asked holidays e s)) 0 z)

-- A ledger's items at the front of any array.
pub record Spread (ledger : Ledger) (items : List Item) : Type 0 where
  pub count_most : ledger.count ≤ capacity
  pub front : take capacity items ≡ ledger.items

pub spread_stands : {ledger : Ledger} {items : List Item} → Spread ledger items → lying items (queue_in ledger) ≡ standing ledger
spread_stands {ledger} {items} w =
    let same = sym (take-take ledger.count capacity items w.count_most) ∙ ap (take ledger.count) w.front in
    λ i. record { open_items = same i; credit = ledger.credit; held = ledger.held }
