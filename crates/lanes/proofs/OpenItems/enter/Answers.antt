-- What the numbers say of the entry is what the definition says (`Queues.Settling`), and what is stored lies as the numbers say.
use Rattle.std.proofs.Common.{◌≡◌, ◌∙◌, sym, ap, rules, arith}
use Rattle.common.proofs.Refusals.{number_some}
use Rattle.ledger.specs.Entries.{asked, number_of, interest_posted}
use Rattle.ledger.specs.Numbers.{settled_number, settled_by}
use Rattle.ledger.specs.declared.numbers.Settled.{Settled}
use Rattle.ledger.proofs.Queues.{Entering, Settling, settle_bounds, refusal_is, covered_within, oldest_within, oldest_bounds}
use Rattle.ledger.proofs.Queues.{after_stands, after_lies, few_after, front_is, interest_is, interest_fits, next_asked, next_same}
use Rattle.lanes.proofs.Places.{between}
use Rattle.lanes.proofs.OpenItems.enter.Goals as goal
use Rattle.lanes.proofs.OpenItems.enter.Goals.{After-cover-cover}

module _ (c : After-cover-cover) where
  abbrev entering : Entering
  entering =
      record {
        holidays = c.args.holidays.days.now;
        items = c.self.inside.places;
        queue = c.self.inside.queue;
        entry = c.args.entry;
        cover = c.cover-cover.result;
        lies = c.self.invariant.lies;
        within = rw c.self.view_is c.requires.within;
        room = c.self.invariant.room;
        bounds = c.requires.bounds;
        covers = rw (c.end-end.ensures, between) at c.cover-cover.ensures;
      }

  refusal : settled_number c.self.inside.queue c.args.entry c.cover-cover.result
      ≡ number_of (asked c.args.holidays.days.now c.args.entry c.args.self.now)
  refusal = rw c.self.view_is at (refusal_is entering)

  abbrev settling : {r : Settled} → r ≡ settled_by c.self.inside.queue c.args.entry c.cover-cover.result → Settling
  settling {r} settles = record { entering = entering; settled = r; settles = settles }

pub settle_numbers-requires : goal.settle_numbers-requires
settle_numbers-requires c = settle_bounds (entering c)

pub returns-in_err-settled-clause-number : goal.returns-in_err-settled-clause-number
returns-in_err-settled-clause-number c =
    let refused = c.in_err-settled.ensures.number ∙ refusal (goal.at.returns-in_err-settled-clause-number c).After-cover-cover in
    search rules

pub returns-in_err-settled-clause-stands : goal.returns-in_err-settled-clause-stands
returns-in_err-settled-clause-stands c =
    let refused = c.in_err-settled.ensures.number ∙ refusal (goal.at.returns-in_err-settled-clause-stands c).After-cover-cover in
    let some = number_some c.in_err-settled.field-0.0 in
    (search rules) ∙ sym (next_same c.args.holidays.days.now c.args.entry c.args.self.now (λ z. omega arith))

pub store-requires-clause-storable : goal.store-requires-clause-storable
store-requires-clause-storable c =
    let k = settling (goal.at.store-requires-clause-storable c).After-cover-cover c.in_ok-settled.ensures.settled in
    rw (front_is k, c.end-end.ensures)
    (record {
      in_order = omega (arith, covered_within k.entering);
      room = c.self.invariant.room;
      owes = oldest_within k;
      bounds = oldest_bounds k;
    })

pub make_room-self-inside-requires-clause-lies : goal.make_room-self-inside-requires-clause-lies
make_room-self-inside-requires-clause-lies c =
    let k = settling (goal.at.make_room-self-inside-requires-clause-lies c).After-cover-cover c.in_ok-settled.ensures.settled in
    after_lies k c.store.new.places c.store.ensures.long (rw (c.end-end.ensures, front_is k) at c.store.ensures.lie)

pub make_room-self-inside-requires-clause-few : goal.make_room-self-inside-requires-clause-few
make_room-self-inside-requires-clause-few c =
    let begun = (goal.at.make_room-self-inside-requires-clause-few c).After-cover-cover in
    few_after (settling begun c.in_ok-settled.ensures.settled) (sym (refusal_is (entering begun)) ∙ sym c.in_ok-settled.ensures.number)

pub overflow_add-result : goal.overflow_add-result
overflow_add-result c =
    let k = settling (goal.at.overflow_add-result c).After-cover-cover c.in_ok-settled.ensures.settled in
    record { fits = omega (arith, interest_fits k) }

pub returns-clause-number : goal.returns-clause-number
returns-clause-number c = c.in_ok-settled.ensures.number ∙ refusal (goal.at.returns-clause-number c).After-cover-cover

pub returns-clause-stands : goal.returns-clause-stands
returns-clause-stands c =
    let begun = (goal.at.returns-clause-stands c).After-cover-cover in
    let k = settling begun c.in_ok-settled.ensures.settled in
    let accepted = c.in_ok-settled.ensures.number ∙ refusal begun in
    let stored = after_stands k c.store.new.places (rw (c.end-end.ensures, front_is k) at c.store.ensures.lie) in
    c.make_room-self-inside.ensures.stands ∙ rw c.self.view_is at stored ∙
    sym (next_asked c.args.holidays.days.now c.args.entry c.args.self.now (sym accepted))

pub returns-clause-interest : goal.returns-clause-interest
returns-clause-interest c =
    let k = settling (goal.at.returns-clause-interest c).After-cover-cover c.in_ok-settled.ensures.settled in
    interest_is k ∙ ap (interest_posted c.args.holidays.days.now c.args.entry) c.self.view_is
