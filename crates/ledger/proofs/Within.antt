-- What keeps an entry's numbers within their bounds. Assumes nothing.
use Rattle.common.proofs.Words.{◌≡◌, refl, List, [], ◌∷◌, ℕ, ◌*◌, ◌≤◌, suc-mul, suc-ne-zero, arith, length, le-leb, lt-leb}
use Rattle.std.specs.List.{sum_by}
use Rattle.std.proofs.lemmas.List.Recursion.{is_sum_by}
use Rattle.lists.specs.Every.{Every}
use Rattle.common.proofs.Cases.{by_order}
use Rattle.lists.proofs.Every.{every_map}
use Rattle.ledger.specs.{declared.Item.Item, Limits.capacity, Limits.most_interest, Limits.most_credit, Settling.unpaid_of}
use Rattle.ledger.specs.{Posting.ItemBounds, Entries.limit_number}
use Rattle.ledger.proofs.Posting.{Owing}

pub owing : (items : List Item) → Every ItemBounds items → Owing items
owing items w = every_map ItemBounds (λ item. 1 ≤ item.unpaid) (λ item b. b.unpaid_least) items w

pub owed_most : (items : List Item) → Every ItemBounds items → unpaid_of items ≤ length items * most_interest
owed_most [] w = omega arith
owed_most (item ∷ items) w = rw (suc-mul (length items) most_interest) (omega (arith, w.0.unpaid_most, owed_most items w.1))

-- What is unpaid, in the library's words.
pub unpaid_is_sum : (items : List Item) → unpaid_of items ≡ sum_by (λ (item : Item). item.unpaid) items
unpaid_is_sum = is_sum_by unpaid_of (λ (item : Item). item.unpaid) refl (λ _ _. refl)

pub record Passes (count credit : ℕ) : Type 0 where
  pub count_most : count ≤ capacity
  pub credit_most : credit ≤ most_credit

pub number_passes : (count credit : ℕ) → limit_number count credit ≡ 0 → Passes count credit
number_passes count credit e =
    by_order capacity count (λ l. absurd (suc-ne-zero 11 (rw (lt-leb count capacity l) at e)))
    (λ few.
    by_order most_credit credit
    (λ l. absurd (suc-ne-zero 12 (rw (le-leb count capacity few, lt-leb credit most_credit l) at e)))
    (λ small. record { count_most = few; credit_most = small }))
