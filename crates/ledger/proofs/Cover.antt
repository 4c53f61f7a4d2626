-- Settling as a walk from the oldest item, over a list of any length. Assumes nothing.
use Rattle.common.proofs.Words.{◌≡◌, refl, ap, sym, List, [], ◌∷◌, ℕ, suc, ◌+◌, ◌-◌, ◌*◌, ◌≤◌, ◌<◌, add_assoc, add-zero, zero-add}
use Rattle.common.proofs.Words.{not-suc-le-zero, sub-zero, sub_self, arith, length, get_or, take, drop, length-drop, drop-cons, drop-length}
use Rattle.common.proofs.Words.{take-length, take_all, le-leb, lt-leb}
use Rattle.lists.specs.Every.{Every}
use Rattle.lists.proofs.{Every.every_map, Sum.total_suc}
use Rattle.ledger.specs.Settling.{Settlement, reduced, with_interest, settle, settled_count, unpaid_of}
use Rattle.ledger.specs.{declared.Item.Item, declared.Coverage.Coverage, Limits.last_call_day, Limits.most_borne, Interest.interest_on}
use Rattle.ledger.specs.Posting.{coverage, blank, ItemBounds}
use Rattle.ledger.proofs.Settling.{by_settling, conserved, arisen_most, open_most}
use Rattle.ledger.proofs.Interest.{interest_within}

-- The items before i are settled. What the money left makes of the others, with the interest so far, is what the whole makes of all.
pub record Covering (items : List Item) (day money left arisen i : ℕ) : Type 0 where
  pub within : i ≤ length items
  pub paid : left + unpaid_of (take i items) ≡ money
  pub ahead : settle day money items ≡ with_interest arisen (settle day left (drop i items))

pub covering_first : (items : List Item) (day money : ℕ) → Covering items day money money 0 0
covering_first items day money =
    record { within = omega arith; paid = add-zero money; ahead = rw (zero-add (settle day money items).arisen) }

module _ {items : List Item} {day money left arisen i : ℕ} (w : Covering items day money left arisen i) where
  abbrev item : Item
  item = get_or items i blank

  pub covering_next : i < length items → item.unpaid ≤ left
      → Covering items day money (left - item.unpaid) (arisen + interest_on item day) (suc i)
  covering_next h covers =
      record {
        within = h;
        paid = rw (total_suc (λ x. x.unpaid) items i blank h) (omega (arith, w.paid));
        ahead = rw (w.ahead, drop-cons items i blank h, le-leb item.unpaid left covers, add_assoc arisen (interest_on item day));
      }

  -- the walk ends after i items
  abbrev Ends : Type 0
  Ends = record { covered = i; left = left; arisen = arisen } ≡ coverage day money items

  ended : settled_count day money items ≡ i → (settle day money items).arisen ≡ arisen → Ends
  unfolding coverage
  ended count interest =
      let rest : left ≡ money - unpaid_of (take i items) = omega (arith, w.paid) in
      rw (count, interest, rest)

  -- every item is settled
  pub covering_all : i ≡ length items → Ends
  covering_all e = ended (rw (w.ahead, e, drop-length items) (omega arith)) (rw (w.ahead, e, drop-length items) (omega arith))

  -- the next item is not covered
  pub covering_short : i < length items → left < item.unpaid → Ends
  covering_short h short =
      let stops = w.ahead in
      let next = drop-cons items i blank h in
      let less = lt-leb item.unpaid left short in
      ended (rw (stops, next, less, length-drop (suc i) items) (omega arith)) (rw (stops, next, less) (omega arith))

-- What a coverage says of the settling: where every item is settled,
pub all_settled : (day money : ℕ) (items : List Item) → let cover = coverage day money items in
    cover.covered ≡ length items
    → settle day money items ≡ record { left = cover.left; open_items = []; arisen = cover.arisen }
unfolding coverage
all_settled day money items e = λ i. record { left = left i; open_items = none i; arisen = (settle day money items).arisen }
  where
    none : (settle day money items).open_items ≡ []
    none = sym (take_all 0 (settle day money items).open_items (omega (arith, open_most day money items)))

    left : (settle day money items).left ≡ money - unpaid_of (take (settled_count day money items) items)
    left = rw (e, take-length items) (omega (arith, rw none at (conserved day money items)))

-- and where one is not covered.
pub record Short (day : ℕ) (items : List Item) (done : Settlement) (cover : Coverage) : Type 0 where
  pub less : cover.left < (get_or items cover.covered blank).unpaid
  pub stops :
      done ≡
      record {
        left = 0;
        open_items = reduced day (get_or items cover.covered blank) cover.left ∷ drop (suc cover.covered) items;
        arisen = cover.arisen;
      }

abbrev cover_of : ℕ → List Item → Settlement → Coverage
cover_of money items done =
    let count = length items - length done.open_items in
    record { covered = count; left = money - unpaid_of (take count items); arisen = done.arisen }

abbrev ShortIn : ℕ → ℕ → List Item → Settlement → Type 0
ShortIn day money items done = (cover_of money items done).covered < length items → Short day items done (cover_of money items done)

pub not_covered : (day money : ℕ) (items : List Item) → (coverage day money items).covered < length items
    → Short day items (settle day money items) (coverage day money items)
unfolding coverage
not_covered day =
    by_settling day (ShortIn day) (λ money h. absurd (not-suc-le-zero h))
    (λ money item items l ih h.
    let rest = money - item.unpaid in
    let k = settled_count day rest items in
    let next : suc (length items) - length (settle day rest items).open_items ≡ suc k = omega (arith, open_most day rest items) in
    let later = ih (omega (arith, rw next at h)) in
    let less : rest - unpaid_of (take k items) ≡ money - (item.unpaid + unpaid_of (take k items)) = omega arith in
    rw next
    (record { less = rw (← less) later.less; stops = rw (← less) (ap (with_interest (interest_on item day)) later.stops) }))
    (λ money item items l h. rw (sub_self (suc (length items)), sub-zero money) (record { less = l; stops = refl }))

-- How much a coverage can be.
pub covered_most : (day money : ℕ) (items : List Item) → (coverage day money items).covered ≤ length items
unfolding coverage
covered_most day money items = omega arith

pub arisen_within : (day money : ℕ) (items : List Item) → day ≤ last_call_day → Every ItemBounds items
    → (coverage day money items).arisen ≤ length items * most_borne
unfolding coverage
arisen_within day money items h w =
    let Small : Item → Type 0 = λ item. interest_on item day ≤ most_borne in
    let each = every_map ItemBounds Small (λ item. interest_within item day h) items w in
    omega (arith, arisen_most most_borne day money items each)
