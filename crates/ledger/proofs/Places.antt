-- Stores among items that lie in a part of a longer list. Assumes nothing.
use Rattle.common.proofs.Words.{◌≡◌, refl, sym, ap, ◌∙◌, List, [], ◌∷◌, ◌++◌, append-nil, ℕ, zero, suc, ◌+◌, ◌-◌, ◌≤◌, ◌<◌, le_refl, add-zero}
use Rattle.common.proofs.Words.{add-one, arith, ltb, length, get_or, set, take, drop, length-set, length-drop, drop-cons, drop-drop}
use Rattle.common.proofs.Words.{drop-set-lt, get_or-set_same, get_or-take, get_or-drop, take-suc-set, lt-ltb}
use lib.Seq.{drop-set-add, take-set-le}
use Rattle.common.proofs.Cases.{by_test, cond_most}
use Rattle.lists.proofs.Pad.{drop_take}
use Rattle.ledger.specs.{declared.Kind.Kind, declared.Item.Item, Settling.reduced, Posting.made, Posting.blank}
use Rattle.ledger.specs.Numbers.{less_paid, taken_up, posted, part}
use Rattle.ledger.proofs.Posting.{part_of_none}

-- The item at a place of a part.
pub at_is : (items : List Item) (front count i : ℕ) → i < count → get_or (part front count items) i blank ≡ get_or items (front + i) blank
at_is items front count i h = get_or-take count (drop front items) i blank h ∙ get_or-drop front items i blank

-- A queue that starts k items later.
pub part_later : (front count k : ℕ) (items : List Item) → part (front + k) (count - k) items ≡ drop k (part front count items)
part_later front count k items = sym (drop_take k count (drop front items) ∙ ap (take (count - k)) (drop-drop k front items))

-- The oldest item less what is paid of it.
pub part_oldest : (day front count paid : ℕ) (items : List Item) → front < length items
    → part front count (set items front (reduced day (get_or items front blank) paid)) ≡ less_paid day paid (part front count items)
part_oldest day front zero paid items h = refl
part_oldest day front (suc count) paid items h =
    let item = reduced day (get_or items front blank) paid in
    rw (
      drop-cons (set items front item) front blank (rw (length-set items front item) h),
      get_or-set_same items front item blank h,
      drop-set-lt (suc front) items front item (le_refl (suc front)),
      drop-cons items front blank h,
    )

pub less_none : (day paid : ℕ) (items : List Item) → paid ≡ 0 → less_paid day paid items ≡ items
less_none day paid [] e = refl
less_none day paid (item ∷ items) e = rw (e, part_of_none day item)

-- An item is stored behind the last; where nothing of it is unpaid, its place stays free.
pub part_behind : (due : ℕ) (kind : Kind) (day amount unpaid front count at : ℕ) (items : List Item)
    → front + count ≡ at → at < length items
    → part front (count + taken_up unpaid) (set items at (made due kind day amount unpaid)) ≡
    part front count items ++ posted due kind day amount unpaid
unfolding taken_up posted
part_behind due kind day amount unpaid front count at items e h =
    let item = made due kind day amount unpaid in
    let rest = drop front items in
    let room : count < length rest = rw (length-drop front items) (omega arith) in
    rw (← e, drop-set-add front items count item)
    (by_test (ltb 0 unpaid) (λ t. rw (t, add-one count) (take-suc-set rest count item room))
    (λ t. rw (t, add-zero count, append-nil (part front count items)) (take-set-le count rest count item (le_refl count))))

pub taken_up_none : (unpaid : ℕ) → unpaid ≡ 0 → taken_up unpaid ≡ 0
unfolding taken_up
taken_up_none unpaid e = rw e

pub taken_up_some : (unpaid : ℕ) → (unpaid ≡ 0 → ⊥) → taken_up unpaid ≡ 1
unfolding taken_up
taken_up_some unpaid some = rw (lt-ltb 0 unpaid (omega arith))

pub part_none : (due : ℕ) (kind : Kind) (day amount unpaid front count : ℕ) (items : List Item) → unpaid ≡ 0
    → part front (count + taken_up unpaid) items ≡ part front count items ++ posted due kind day amount unpaid
unfolding taken_up posted
part_none due kind day amount unpaid front count items e = rw (e, add-zero count, append-nil (part front count items))

pub length_posted : (due : ℕ) (kind : Kind) (day amount unpaid : ℕ) → length (posted due kind day amount unpaid) ≡ taken_up unpaid
unfolding taken_up posted
length_posted due kind day amount unpaid = by_test (ltb 0 unpaid) (λ e. rw e) (λ e. rw e)

pub taken_up_most : (unpaid : ℕ) → taken_up unpaid ≤ 1
unfolding taken_up
taken_up_most unpaid = cond_most (ltb 0 unpaid) 1
