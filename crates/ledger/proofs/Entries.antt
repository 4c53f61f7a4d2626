-- What an entry asks is what the numbers say of it. Assumes nothing.
use Rattle.common.proofs.Words.{◌≡◌, refl, cond, List, [], ◌++◌, ℕ, ◌+◌, ◌-◌, add-zero, sub-zero, sub_self, arith, drop}
use Rattle.common.proofs.Words.{false}
use Rattle.std.proofs.Common.{Option, None, Some, is_some, unwrap_or}
use Rattle.duedays.specs.DueDays.{due_day}
use Rattle.ledger.specs.Posting.{Standing, entered, post, paid, none_held, held_posted, Ready}
use Rattle.ledger.specs.Numbers.{after_paid, held_asked, after_held, after_charge, held_on, arisen_asked, after_arisen}
use Rattle.ledger.specs.Numbers.{settled_number, settled_by, less_paid, posted, items_after, queue_of}
use Rattle.ledger.specs.{declared.Kind.Kind, declared.Kind.TheVariants.Interest, declared.Kind.TheVariants.Price}
use Rattle.ledger.specs.{declared.Item.Item, declared.Coverage.Coverage, declared.Entry.Entry, declared.Queue.Queue}
use Rattle.ledger.specs.Entries.{closes, charged, taken, asked, number_of}
use Rattle.common.proofs.Cases.{by_test}
use Rattle.ledger.proofs.Posting.{post_one, post_post, post_covered, post_ready}
use Rattle.ledger.proofs.Tallies.{with_held, Known, known_held, known_post, Asking, known_paid}

-- Nothing posted changes nothing.
post_none : (holidays : List ℕ) (kind : Kind) (day : ℕ) (x : Standing) → Ready x → post_one holidays kind day 0 x ≡ x
post_none holidays kind day x ready = rw (post_covered holidays kind day 0 x ready (omega arith), sub-zero x.credit)

-- Where an entry closes nothing, nothing is charged.
none_charged : (charge : Option ℕ) → is_some charge ≡ false → unwrap_or charge 0 ≡ 0
none_charged None e = refl
none_charged (Some n) e = cc

-- An entry as steps: what comes in, interest held, the charge, interest that arose.
module _ (holidays : List ℕ) {e : Entry} {s : Standing} {cover : Coverage} (w : Asking e s cover) where
  abbrev day : ℕ
  day = e.day

  in_step : Standing
  in_step = paid day e.money (with_held (s.held - cond (closes e) s.held 0) s)

  taken_step : Standing
  taken_step = post_one holidays Price day (charged e) (post_one holidays Interest day (cond (closes e) s.held 0) in_step)

  taken_steps : taken holidays e s ≡ taken_step
  unfolding taken taken_step in_step paid
  taken_steps =
      let held = entered holidays Interest day s.held in
      let charge = entered holidays Price day (charged e) in
      let first = post_post day e.money 0 [] held (none_held s) in
      let second = post_post day (e.money + 0) 0 held charge (none_held s) in
      let in-only = post day e.money [] s in
      let ready = post_ready day e.money [] s w.owing tt in
      by_test (closes e) (λ c. rw (c, sub_self s.held, first, second, add-zero e.money, add-zero e.money))
      (λ c.
      rw (
        c,
        none_charged e.charge c,
        sub-zero s.held,
        post_none holidays Interest day in-only ready,
        post_none holidays Price day in-only ready,
      ))

  asked_steps : (x : Standing) → taken holidays e s ≡ x → Ready x
      → asked holidays e s ≡ post_one holidays Interest day (cond e.posts x.held 0) (with_held (x.held - cond e.posts x.held 0) x)
  unfolding asked held_posted
  asked_steps x is ready =
      rw is
      (by_test e.posts (λ p. rw (p, sub_self x.held)) (λ p. rw (p, sub-zero x.held, post_none holidays Interest day x ready)))

  module _ (front : ℕ) where
    abbrev q : Queue
    q = queue_of front s

    abbrev rest : List Item
    rest = drop cover.covered s.open_items

    -- the items once a closing has posted
    abbrev taken_items : List Item
    taken_items =
        let due = due_day holidays day in
        (less_paid day (after_paid q e cover).part rest ++ posted due Interest day (held_asked q e cover) (after_held q e cover).part) ++
        posted due Price day (charged e) (after_charge q e cover).part

    pub taken_known : Known (taken holidays e s) (after_charge q e cover).tally taken_items (held_on q e cover)
    unfolding taken_step in_step
    taken_known =
        let come-in = known_paid w (s.held - held_asked q e cover) in
        rw taken_steps
        (known_post (known_post come-in holidays Interest day (held_asked q e cover)) holidays Price day (charged e))

    pub asked-known :
        Known (asked holidays e s) (after_arisen q e cover).tally (items_after (due_day holidays day) day (settled_by q e cover) rest)
        (held_on q e cover - arisen_asked q e cover)
    unfolding settled_by
    asked-known =
        rw (asked_steps (taken holidays e s) refl taken_known.ready, taken_known.held_is)
        (known_post (known_held taken_known (held_on q e cover - arisen_asked q e cover)) holidays Interest day (arisen_asked q e cover))

    -- the numbers of an entry are those of what it asks
    pub queue_is : (settled_by q e cover).queue ≡ queue_of (front + cover.covered) (asked holidays e s)
    unfolding settled_by
    queue_is = rw (← asked-known.tally_is, ← asked-known.held_is)

    pub number_is : settled_number q e cover ≡ number_of (asked holidays e s)
    unfolding settled_number
    number_is = rw (← asked-known.tally_is)
