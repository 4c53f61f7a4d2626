-- Laws of posting. Assumes nothing.
use Rattle.common.proofs.Words.{◌≡◌, refl, ap, ◌∙◌, ⊎_elim, List, [], ◌∷◌, ◌++◌, append_assoc, append-nil, ℕ, ◌+◌, ◌-◌, ◌≤◌, ◌<◌, le_refl}
use native.Mathlib.Nat.{mul-zero, zero-mul}
use Rattle.common.proofs.Words.{min, add_assoc, add-zero, sub_self, sub-zero, arith, pos, length, le-leb, lt-leb, lt-ltb}
use Rattle.lists.specs.Every.{Every}
use Rattle.common.proofs.Cases.{by_zero}
use Rattle.lists.proofs.Every.{every_append}
use Rattle.duedays.specs.DueDays.{due_day}
use Rattle.duedays.proofs.DueDays.{due_from}
use Rattle.ledger.specs.Posting.{Standing, made, new_item, entered, settled_with, post, closed, held_posted, Ready}
use Rattle.ledger.specs.{declared.Kind.Kind, declared.Kind.TheVariants.Interest, declared.Kind.TheVariants.Price}
use Rattle.ledger.specs.{declared.Item.Item, Settling.Settlement, Settling.reduced, Settling.settle}
use Rattle.ledger.specs.Interest.{body_of, counted_days, gathered_with, interest_on}
use Rattle.ledger.proofs.{Interest.none_counted, Interest.none_borne, Settling.twice_once, Settling.left_or_none, Settling.settle_keeps}

-- Posting twice on one day is posting once.
pub post_post : (day first more : ℕ) (items behind : List Item) (s : Standing)
    → post day more behind (post day first items s) ≡ post day (first + more) (items ++ behind) s
unfolding post
post_post day first more items behind s =
    let first-done = settle day (s.credit + first) (s.open_items ++ items) in
    let then = settle day (first-done.left + more) (first-done.open_items ++ behind) in
    let once = twice_once day more behind (s.credit + first) (s.open_items ++ items) in
    let all = rw (add_assoc s.credit first more, append_assoc s.open_items items behind) at once in
    (λ i. record { open_items = then.open_items; credit = then.left; held = add_assoc s.held first-done.arisen then.arisen i }) ∙
    ap (settled_with s) all

-- A part of nothing changes nothing.
pub part_of_none : (day : ℕ) (item : Item) → reduced day item 0 ≡ item
part_of_none day item =
    let none : min item.share 0 ≡ 0 = omega arith in
    rw (sub-zero item.unpaid, sub-zero item.share, none, zero-mul (counted_days item.due day), add-zero item.gathered)

abbrev pub Owing : List Item → Type 0
Owing = Every (λ item. 1 ≤ item.unpaid)

owing_append : (items behind : List Item) → Owing items → Owing behind → Owing (items ++ behind)
owing_append = every_append (λ item. 1 ≤ item.unpaid)

settle_none : (day : ℕ) (items : List Item) → Owing items → settle day 0 items ≡ record { left = 0; open_items = items; arisen = 0 }
settle_none day [] w = refl
settle_none day (item ∷ items) w = rw (lt-leb item.unpaid 0 w.0, part_of_none day item)

-- A posting leaves a standing that has settled what it can.
pub post_ready : (day money : ℕ) (items : List Item) (s : Standing) → Owing s.open_items → Owing items
    → Ready (post day money items s)
unfolding post
post_ready day money items s old new =
    let all = s.open_items ++ items in
    record {
      settled = left_or_none day (s.credit + money) all;
      none_at_zero =
          settle_keeps (λ item. 1 ≤ item.unpaid) day (λ item paid owed less. omega arith) (s.credit + money) all
          (owing_append s.open_items items old new);
    }

-- An amount posted with no money.
abbrev pub post_one : List ℕ → Kind → ℕ → ℕ → Standing → Standing
post_one holidays kind day amount s = post day 0 (entered holidays kind day amount) s

-- On a standing that has settled what it can, its credit alone goes to what is posted behind.
abbrev behind : List Item → Settlement → Settlement
behind items done = record { left = done.left; open_items = items ++ done.open_items; arisen = done.arisen }

posted : (day : ℕ) (items : List Item) (s : Standing) → Ready s → Owing items
    → post day 0 items s ≡ settled_with s (behind s.open_items (settle day s.credit items))
unfolding post
posted day items s ready new =
    let all = owing_append s.open_items items ready.none_at_zero new in
    rw (add-zero s.credit)
    (⊎_elim (λ (e : s.credit ≡ 0). rw (e, settle_none day (s.open_items ++ items) all, settle_none day items new))
    (λ (e : s.open_items ≡ []). rw e) ready.settled)

module _ (holidays : List ℕ) (kind : Kind) (day amount : ℕ) where
  pub entered_none : amount ≡ 0 → entered holidays kind day amount ≡ []
  unfolding entered
  entered_none e = rw e

  pub entered_some : 0 < amount → entered holidays kind day amount ≡ new_item holidays kind day amount ∷ []
  unfolding entered
  entered_some h = rw (lt-ltb 0 amount h)

  -- nothing, or one item
  pub by_entered : (P : List Item → Type 0) → (amount ≡ 0 → P []) → (0 < amount → P (new_item holidays kind day amount ∷ []))
      → P (entered holidays kind day amount)
  by_entered P none some = by_zero amount (λ e. rw (entered_none e) (none e)) (λ l. rw (entered_some l) (some l))

  pub entered_owing : Owing (entered holidays kind day amount)
  entered_owing = by_entered Owing (λ e. tt) (λ l. (l, tt))

  pub entered_count : length (entered holidays kind day amount) ≤ 1
  entered_count = by_entered (λ items. length items ≤ 1) (λ e. omega arith) (λ l. le_refl 1)

  -- An item gathers nothing on the day it is posted: it bears no interest, and credit pays a part of it in time.
  none_gathered : (money : ℕ) → gathered_with day (new_item holidays kind day amount) money ≡ 0
  none_gathered money =
      let counts = none_counted (due_day holidays day) day (omega (arith, due_from holidays day)) in
      rw (counts, mul-zero (min (new_item holidays kind day amount).share money))

  new_bears_none : interest_on (new_item holidays kind day amount) day ≡ 0
  new_bears_none = rw (none_gathered amount) (none_borne kind)

  new_reduced : (credit : ℕ) → credit ≤ amount
      → reduced day (new_item holidays kind day amount) credit ≡ made (due_day holidays day) kind day amount (amount - credit)
  new_reduced credit h =
      let paid : amount - (amount - credit) ≡ credit = omega arith in
      rw (none_gathered credit, sub_self amount, sub-zero (body_of kind amount day), paid)

  module _ (s : Standing) (ready : Ready s) where
    -- an amount that the credit covers is settled at once
    pub post_covered : amount ≤ s.credit
        → post_one holidays kind day amount s ≡ record { open_items = s.open_items; credit = s.credit - amount; held = s.held }
    post_covered h =
        rw (posted day (entered holidays kind day amount) s ready entered_owing, covered, append-nil s.open_items, add-zero s.held)
      where
        covered :
            settle day s.credit (entered holidays kind day amount) ≡ record { left = s.credit - amount; open_items = []; arisen = 0 }
        covered =
            by_entered (λ items. settle day s.credit items ≡ record { left = s.credit - amount; open_items = []; arisen = 0 })
            (λ e. rw (e, sub-zero s.credit)) (λ l. rw (le-leb amount s.credit h, new_bears_none))

    -- of any other the credit pays a part, and the rest is one more open item
    pub post_short : s.credit < amount
        → post_one holidays kind day amount s ≡
        record {
          open_items = s.open_items ++ (made (due_day holidays day) kind day amount (amount - s.credit) ∷ []);
          credit = 0;
          held = s.held;
        }
    post_short h =
        rw (
          posted day (entered holidays kind day amount) s ready entered_owing,
          entered_some (omega arith),
          lt-leb amount s.credit h,
          new_reduced s.credit (omega arith),
          add-zero s.held,
        )

-- A closing with no net posts interest held only.
pub closed_with_none : (holidays : List ℕ) (day : ℕ) (s : Standing) → closed holidays day (pos 0) s ≡ held_posted holidays day s
unfolding closed held_posted
closed_with_none holidays day s =
    rw (entered_none holidays Price day 0 refl, append-nil (entered holidays Interest day s.held))
