-- Laws of settling, over lists of any length. Assumes nothing.
use Rattle.common.proofs.Words.{◌≡◌, refl, ap, ◌∙◌, ◌⊎◌, inl, inr, List, [], ◌∷◌, ◌++◌, ℕ, zero, suc, ◌+◌, ◌-◌, ◌*◌, ◌≤◌, ◌<◌, min}
use Rattle.common.proofs.Words.{add_assoc, zero-add, suc-mul}
use Rattle.common.proofs.Words.{le_refl, not-suc-le-zero, le_of_suc-le-suc, arith, length, take, le-leb, lt-leb}
use Rattle.lists.specs.Every.{Every}
use Rattle.ledger.specs.Settling.{Settlement, reduced, with_interest, settle, settled_count, unpaid_of}
use Rattle.ledger.specs.{declared.Item.Item, Interest.gathered_with, Interest.borne, Interest.interest_on}
use Rattle.common.proofs.Cases.{by_order}

-- Induction over a settling: no item is left, the money covers the next one, or it does not.
module _ (day : ℕ) (P : ℕ → List Item → Settlement → Type 0)
    (none : (money : ℕ) → P money [] (record { left = money; open_items = []; arisen = 0 }))
    (covered : (money : ℕ) (item : Item) (items : List Item) → item.unpaid ≤ money
    → let rest = money - item.unpaid in
    P rest items (settle day rest items) → P money (item ∷ items) (with_interest (interest_on item day) (settle day rest items)))
    (short : (money : ℕ) (item : Item) (items : List Item) → money < item.unpaid
    → P money (item ∷ items) (record { left = 0; open_items = reduced day item money ∷ items; arisen = 0 })) where
  pub by_settling : (money : ℕ) (items : List Item) → P money items (settle day money items)
  by_settling money [] = none money
  by_settling money (item ∷ items) =
      let later = by_settling (money - item.unpaid) items in
      by_order money item.unpaid (λ h. rw (lt-leb item.unpaid money h) (short money item items h))
      (λ h. rw (le-leb item.unpaid money h) (covered money item items h later))

-- What was paid is what is no longer unpaid: money + unpaid after = left + unpaid before.
pub conserved : (day money : ℕ) (items : List Item)
    → money + unpaid_of (settle day money items).open_items ≡ (settle day money items).left + unpaid_of items
conserved day =
    by_settling day (λ money items done. money + unpaid_of done.open_items ≡ done.left + unpaid_of items) (λ money. refl)
    (λ money item items h ih. omega arith) (λ money item items h. omega arith)

-- What is left is 0, or nothing is open.
pub left_or_none : (day money : ℕ) (items : List Item)
    → ((settle day money items).left ≡ 0) ⊎ ((settle day money items).open_items ≡ [])
left_or_none day =
    by_settling day (λ money items done. (done.left ≡ 0) ⊎ (done.open_items ≡ [])) (λ money. inr refl)
    (λ money item items h ih. ih) (λ money item items h. inl refl)

-- Two parts paid on one day are one part,
pub reduced_twice : (day first more : ℕ) (item : Item) → reduced day (reduced day item first) more ≡ reduced day item (first + more)
reduced_twice day first more item = λ i.
    record {
      amount = item.amount;
      unpaid = unpaid i;
      share = share i;
      gathered = gathered i;
      obligation = item.obligation;
      due = item.due;
      kind = item.kind;
    }
  where
    unpaid : item.unpaid - first - more ≡ item.unpaid - (first + more)
    unpaid = omega arith

    share : item.share - first - more ≡ item.share - (first + more)
    share = omega arith

    both : min item.share (first + more) ≡ min item.share first + min (item.share - first) more
    both = omega arith

    gathered : gathered_with day (reduced day item first) more ≡ gathered_with day item (first + more)
    gathered = rw both (omega arith)

-- and a part paid before, on the same day, does not change the interest.
interest_reduced : (day money : ℕ) (item : Item) → money ≤ item.unpaid → interest_on (reduced day item money) day ≡ interest_on item day
interest_reduced day money item h =
    let all : money + (item.unpaid - money) ≡ item.unpaid = omega arith in
    ap (λ (x : Item). borne item.kind x.gathered)
    (reduced_twice day money (item.unpaid - money) item ∙ ap (reduced day item) all)

-- Settling twice on one day is settling once: what the first settling leaves, with more money and more items behind, comes to what the
-- whole money makes of the whole list, and the interest adds up.
module _ (day more : ℕ) (behind : List Item) where
  abbrev then : ℕ → List Item → Settlement
  then money items = settle day (money + more) (items ++ behind)

  abbrev Once : ℕ → List Item → Settlement → Type 0
  Once first items done = with_interest done.arisen (then done.left done.open_items) ≡ then first items

  pub twice_once : (first : ℕ) (items : List Item) → Once first items (settle day first items)
  twice_once =
      by_settling day Once (λ first. rw (zero-add (then first []).arisen))
      (λ first item items h ih.
      let all = le-leb item.unpaid (first + more) (omega arith) in
      let less : first + more - item.unpaid ≡ first - item.unpaid + more = omega arith in
      rw (all, less, add_assoc (interest_on item day)) (ap (with_interest (interest_on item day)) ih))
      (λ first item items h.
      by_order more (item.unpaid - first)
      (λ l.
      let part = lt-leb (item.unpaid - first) more l in
      let all = lt-leb item.unpaid (first + more) (omega arith) in
      rw (zero-add more, part, all, reduced_twice day first more item))
      (λ l.
      let part = le-leb (item.unpaid - first) more l in
      let all = le-leb item.unpaid (first + more) (omega arith) in
      let less : more - (item.unpaid - first) ≡ first + more - item.unpaid = omega arith in
      rw (zero-add more, part, all, less, interest_reduced day first item (omega arith))
      (rw (zero-add (interest_on item day + (settle day (first + more - item.unpaid) (items ++ behind)).arisen)))))

-- What stays open was there before, and a part of it is paid.
module _ (P : Item → Type 0) (day : ℕ) (kept : (item : Item) (money : ℕ) → P item → money < item.unpaid → P (reduced day item money)) where
  pub settle_keeps : (money : ℕ) (items : List Item) → Every P items → Every P (settle day money items).open_items
  settle_keeps =
      by_settling day (λ money items done. Every P items → Every P done.open_items) (λ money w. tt)
      (λ money item items h ih w. ih w.1) (λ money item items h w. (kept item money w.0 h, w.1))

-- Each item settled brings at most the interest of one, and frees its place.
pub arisen_most : (bound day money : ℕ) (items : List Item) → Every (λ item. interest_on item day ≤ bound) items
    → (settle day money items).arisen + length (settle day money items).open_items * bound ≤ length items * bound
arisen_most bound day =
    by_settling day
    (λ money items done. Every (λ item. interest_on item day ≤ bound) items
    → done.arisen + length done.open_items * bound ≤ length items * bound)
    (λ money w. omega arith)
    (λ money item items h ih w. rw (suc-mul (length items) bound) (omega (arith, w.0, ih w.1)))
    (λ money item items h w. omega arith)

-- No more items are open than were.
pub open_most : (day money : ℕ) (items : List Item) → length (settle day money items).open_items ≤ length items
open_most day =
    by_settling day (λ money items done. length done.open_items ≤ length items) (λ money. le_refl 0)
    (λ money item items h ih. omega arith) (λ money item items h. le_refl (length (item ∷ items)))

-- An item is settled exactly when what was paid reaches the sum of the items up to it: as many items are settled, from the front,
-- as have their sum covered.
pub settled_when_reached : (day money : ℕ) (items : List Item) (i : ℕ) → i < length items → unpaid_of (take (suc i) items) ≤ money
    → i < settled_count day money items
settled_when_reached day money [] i h r = absurd (not-suc-le-zero h)
settled_when_reached day money (item ∷ items) zero h r =
    rw (le-leb item.unpaid money (omega arith)) (omega (arith, open_most day (money - item.unpaid) items))
settled_when_reached day money (item ∷ items) (suc i) h r =
    let rest = money - item.unpaid in
    let later = settled_when_reached day rest items i (le_of_suc-le-suc h) (omega arith) in
    rw (le-leb item.unpaid money (omega arith)) (omega (arith, open_most day rest items, later))

pub reached_when_settled : (day money : ℕ) (items : List Item) (i : ℕ) → i < settled_count day money items
    → unpaid_of (take (suc i) items) ≤ money
reached_when_settled day =
    by_settling day
    (λ money items done. (i : ℕ) → i < length items - length done.open_items → unpaid_of (take (suc i) items) ≤ money)
    (λ money i l. omega arith)
    (λ money item items h ih. elim [ zero ↦ λ l. omega arith | suc i ↦ λ l. omega (arith, ih i (omega arith)) ])
    (λ money item items h i l. omega arith)
