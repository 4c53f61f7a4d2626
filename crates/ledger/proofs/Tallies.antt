-- The numbers are those of the definition, step by step. Assumes nothing.
use Rattle.common.proofs.Words.{◌≡◌, refl, ap, List, [], ◌∷◌, ◌++◌, append-nil, ℕ, suc, ◌+◌, ◌-◌, ◌≤◌, ◌<◌, add-zero, le_of_lt, arith}
use Rattle.common.proofs.Words.{length, get_or, drop, length-append, length-drop, drop-cons, drop-length, le-leb, lt-leb, lt-ltb, eq-eqb}
use Rattle.common.proofs.Words.{ne_eqb}
use Rattle.common.proofs.Cases.{by_order}
use Rattle.lists.proofs.Sum.{total_append}
use Rattle.duedays.specs.DueDays.{due_day}
use Rattle.ledger.specs.Settling.{Settlement, reduced, settle, unpaid_of}
use Rattle.ledger.specs.Posting.{Standing, made, entered, post, paid, settled_with, coverage, blank, Ready}
use Rattle.ledger.specs.Numbers.{Step, posting, paying, less_paid, posted}
use Rattle.ledger.specs.{declared.Kind.Kind, declared.Item.Item, declared.Coverage.Coverage, declared.Entry.Entry}
use Rattle.ledger.specs.{declared.numbers.Tally.Tally}
use Rattle.ledger.proofs.Posting.{Owing, post_one, post_covered, post_short, post_ready, entered_owing}
use Rattle.ledger.proofs.Cover.{all_settled, Short, not_covered, covered_most}
use Rattle.ledger.proofs.Settling.{conserved}

abbrev pub tally_of : Standing → Tally
tally_of s = record { count = length s.open_items; owed = unpaid_of s.open_items; credit = s.credit }

abbrev pub with_held : ℕ → Standing → Standing
with_held held s = record { open_items = s.open_items; credit = s.credit; held = held }

-- What stands is known: its numbers, its items and what is held.
pub record Known (x : Standing) (t : Tally) (items : List Item) (held : ℕ) : Type 0 where
  pub tally_is : tally_of x ≡ t
  pub items_are : x.open_items ≡ items
  pub held_is : x.held ≡ held
  pub ready : Ready x

-- Posting an amount.
module _ (holidays : List ℕ) (kind : Kind) (day amount : ℕ) (x : Standing) (ready : Ready x) where
  abbrev step : Step
  step = posting (tally_of x) amount

  abbrev PostKnown : Type 0
  PostKnown =
      let item = posted (due_day holidays day) kind day amount step.part in
      Known (post_one holidays kind day amount x) step.tally (x.open_items ++ item) x.held

  post_known : PostKnown
  unfolding posting posted
  post_known = by_order x.credit amount short covered
    where
      after : Ready (post_one holidays kind day amount x)
      after = post_ready day 0 (entered holidays kind day amount) x ready.none_at_zero (entered_owing holidays kind day amount)

      covered : amount ≤ x.credit → PostKnown
      covered h =
          let is = post_covered holidays kind day amount x ready h in
          rw (le-leb amount x.credit h, is)
          (record { tally_is = refl; items_are = rw (append-nil x.open_items); held_is = refl; ready = rw is at after })

      short : x.credit < amount → PostKnown
      short h =
          let is = post_short holidays kind day amount x ready h in
          let part = amount - x.credit in
          let one = made (due_day holidays day) kind day amount part ∷ [] in
          let owes = total_append (λ (item : Item). item.unpaid) x.open_items one in
          rw (lt-leb amount x.credit h, lt-ltb 0 part (omega arith), is)
          (record {
            tally_is = rw (length-append x.open_items one, owes, add-zero part);
            items_are = refl;
            held_is = refl;
            ready = rw is at after;
          })

module _ {x : Standing} {t : Tally} {items : List Item} {held : ℕ} (w : Known x t items held) where
  pub known_held : (more : ℕ) → Known (with_held more x) t items more
  known_held more = search

  pub known_post : (holidays : List ℕ) (kind : Kind) (day amount : ℕ)
      → let step = posting t amount in
      Known (post_one holidays kind day amount x) step.tally (items ++ posted (due_day holidays day) kind day amount step.part) held
  known_post holidays kind day amount =
      rw (← w.tally_is, ← w.items_are, ← w.held_is) (post_known holidays kind day amount x w.ready)

-- An entry at what stands, and what its money covers of it.
pub record Asking (e : Entry) (s : Standing) (cover : Coverage) : Type 0 where
  pub owing : Owing s.open_items
  pub covers : cover ≡ coverage e.day (s.credit + e.money) s.open_items

-- Money that comes in.
module _ {e : Entry} {s : Standing} {cover : Coverage} (w : Asking e s cover) where
  abbrev money : ℕ
  money = s.credit + e.money

  abbrev opens : List Item
  opens = s.open_items

  abbrev covered : ℕ
  covered = cover.covered

  abbrev done : Settlement
  done = settle e.day money opens

  abbrev paying_step : Step
  paying_step = paying (tally_of s) money cover

  short_of : covered < length opens → Short e.day opens done cover
  short_of h = rw w.covers (not_covered e.day money opens (rw w.covers at h))

  pub money_short : covered < length opens → money ≤ unpaid_of opens
  money_short h = omega (arith, conserved e.day money opens, ap (λ (d : Settlement). d.left) (short_of h).stops)

  -- no more is paid of the oldest item that stays than is unpaid of it
  pub paid_within : (unpaid : ℕ) → (covered < length opens → unpaid ≡ (get_or opens covered blank).unpaid) → paying_step.part ≤ unpaid
  unfolding paying
  paid_within unpaid is =
      by_order covered (length opens)
      (λ h. rw (ne_eqb (length opens - covered) 0 (λ z. omega arith), is h) (le_of_lt (short_of h).less))
      (λ h. rw (eq-eqb (length opens - covered) 0 (omega arith)) (omega arith))

  -- and some of it only where one stays
  pub paid_stays : 0 < paying_step.part → covered < length opens
  unfolding paying
  paid_stays =
      by_order covered (length opens) (λ h some. h)
      (λ h some. absurd (never (rw (eq-eqb (length opens - covered) 0 (omega arith)) at some)))
    where
      never : 0 < 0 → ⊥
      never l = omega arith

  module _ (held : ℕ) where
    abbrev PaidKnown : Type 0
    PaidKnown =
        Known (paid e.day e.money (with_held held s)) paying_step.tally
        (less_paid e.day paying_step.part (drop covered opens)) (held + cover.arisen)

    after : Ready (paid e.day e.money (with_held held s))
    unfolding paid
    after = post_ready e.day e.money [] (with_held held s) w.owing tt

    settled : {d : Settlement} → done ≡ d → paid e.day e.money (with_held held s) ≡ settled_with (with_held held s) d
    unfolding paid post
    settled is = rw (append-nil opens, is)

    pub known_paid : PaidKnown
    unfolding paying
    known_paid = by_order covered (length opens) short all
      where
        all : length opens ≤ covered → PaidKnown
        all h =
            let most = rw (← w.covers) at (covered_most e.day money opens) in
            let full : covered ≡ length opens = omega (arith, most) in
            let stops = rw (← w.covers) at (all_settled e.day money opens (rw w.covers at full)) in
            let is = settled stops in
            rw (eq-eqb (length opens - covered) 0 (omega arith), is)
            (record { tally_is = refl; items_are = rw (full, drop-length opens); held_is = refl; ready = rw is at after })

        short : covered < length opens → PaidKnown
        short h =
            let behind = drop (suc covered) opens in
            let next = reduced e.day (get_or opens covered blank) cover.left in
            let stops = (short_of h).stops in
            let is = settled stops in
            let count : suc (length behind) ≡ length opens - covered = rw (length-drop (suc covered) opens) (omega arith) in
            let all = conserved e.day money opens in
            let owes : unpaid_of (next ∷ behind) ≡ unpaid_of opens - money = omega (arith, rw stops at all) in
            rw (ne_eqb (length opens - covered) 0 (λ z. omega arith), is)
            (record {
              tally_is = rw (count, owes);
              items_are = rw (drop-cons opens covered blank h);
              held_is = refl;
              ready = rw is at after;
            })
