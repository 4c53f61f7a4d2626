-- Interest on what was really late, by hand: 15,650 yen of day 0, due on day 30, with a body of 14,491. Assumes nothing.
use Rattle.common.proofs.Words.{◌≡◌, refl, false, List, [], ◌∷◌, ℕ, pos}
use Rattle.tax.specs.Rate.{tax_rate}
use Rattle.duedays.specs.DueDays.{due_day}
use Rattle.ledger.specs.Interest.{body, counted_days, borne}
use Rattle.ledger.specs.{declared.Kind.TheVariants.Price, declared.Item.Item, Settling.settle, Posting.new_item}
use Rattle.audit.specs.Book.{Money, settled, received}
use Rattle.audit.specs.Book

abbrev bill : List Item
bill = new_item [] Price 0 15650 ∷ []

-- 10,000 paid 10 days late add nothing, 5,000 paid 11 days late add 4,491 × 11 = 49,401, the last 650, 30 days late, are all tax: 13.
in_three : settle 60 650 (settle 41 5000 (settle 40 10000 bill).open_items).open_items ≡ record { left = 0; open_items = []; arisen = 13 }
unfolding tax_rate due_day body counted_days borne
in_three = refl

-- In one sum 11 days late, 14,491 × 11 × 274 / 1,000,000 = 43; 10 days late, none.
at_once : settle 41 15650 bill ≡ record { left = 0; open_items = []; arisen = 43 }
unfolding tax_rate due_day body counted_days borne
at_once = refl

in_time : settle 40 15650 bill ≡ record { left = 0; open_items = []; arisen = 0 }
unfolding tax_rate due_day body counted_days borne
in_time = refl

-- The same in the book, from a closing on day 0.
abbrev billed : Money
billed =
    settled
    (Book.closed [] (record { entries = []; received = 0; credited = 0; arisen = 0; unentered = 0; is_cancelled = false }) 0 (pos 15650))
    0

abbrev paid : Money → ℕ → ℕ → Money
paid m day yen = settled (received m yen) day

in_the_book : (paid (paid (paid billed 40 10000) 41 5000) 60 650).arisen ≡ 13
unfolding tax_rate due_day body counted_days borne
in_the_book = refl

at_once_in_the_book : (paid billed 41 15650).arisen ≡ 43
unfolding tax_rate due_day body counted_days borne
at_once_in_the_book = refl
