-- What stands on the account is what the book says stands, within its bounds: on a day, and through what calls do to it. Assumes nothing.
use Rattle.common.proofs.Words.{◌≡◌, ap, sym, subst, ◌∙◌, ◌⊎◌, true, List, [], ℕ, ◌+◌, ◌≤◌, ℤ, length}
use Rattle.lists.proofs.Every.{every_map}
use Rattle.duedays.specs.DueDays.{list_allowed}
use Rattle.ledger.specs.Limits.{last_call_day, capacity, most_price}
use Rattle.ledger.specs.Posting.{Standing, standing, stored, paid, closed, held_posted, charge_of}
use Rattle.ledger.proofs.{Bounds.standing_stored, Within.Passes}
use Rattle.account.specs.declared.Account.{Account}
use Rattle.account.proofs.Sound.{item_later, Limited, Bounded, held_most, paid_bounded, closed_bounded, posted_bounded, stored_facts}
use Rattle.account.proofs.Facts.{ItemFacts, LedgerFacts, Facts}
use Rattle.audit.specs.Book.{Book, Money, Period, prices, net_added, above_zero, below_zero, paid_in, settled, received, interest_entered}
use Rattle.audit.specs.Book.{cancelled}
use Rattle.audit.proofs.Balance.{Balanced, Kept, on_ledger, standing_is, closed_is, closed_kept, paid_is, paid_kept, entered_is}
use Rattle.audit.proofs.Balance.{entered_kept, entered_none, nothing_waits}
use Rattle.audit.proofs.{Entries.credit_or_none, Periods.difference, Matching.Matched}
use Rattle.audit.specs.Book

pub record Stands (day : ℕ) (x : Standing) (m : Money) (priced : ℕ) : Type 0 where
  pub is : x ≡ on_ledger m
  pub kept : Kept m priced
  pub bounded : Bounded day x

-- 12 and 13 let it pass.
abbrev pub Fits : Standing → Type 0
Fits x = Passes (length x.open_items) x.credit

-- A matched account, on a day not before its latest.
pub stands : {a : Account} {b : Book} {day : ℕ} → Matched a b → Facts a → a.latest ≤ day
    → Stands day (standing a.ledger) b.money (prices b.periods)
stands {a} {b} {day} w facts h =
    let is = standing_is w.balanced in
    let items = (standing a.ledger).open_items in
    let left = credit_or_none (paid_in b.money) b.money.entries w.balanced.kept.covers in
    record {
      is = is;
      kept = w.balanced.kept;
      bounded =
          record {
            sound =
                record {
                  items = every_map (ItemFacts a.latest) (ItemFacts day) (item_later a.latest day h) items facts.ledger.items;
                  settled = subst (λ (y : Standing). (y.credit ≡ 0) ⊎ (y.open_items ≡ [])) (sym is) left;
                };
            limited = subst Limited (sym is) w.limited;
          };
    }

module _ {day : ℕ} {x : Standing} {m : Money} {priced : ℕ} (s : Stands day x m priced) where
  pub stands_limited : Limited (on_ledger m)
  stands_limited = subst Limited s.is s.bounded.limited

  -- It is stored.
  module _ (fits : Fits x) where
    pub stands_balanced : Balanced (stored x) m priced
    stands_balanced = record { stored_as = ap stored s.is; fits = rw s.is at fits.count_most; kept = s.kept }

    pub stands_facts : LedgerFacts day (stored x)
    stands_facts =
        stored_facts day x s.bounded.sound fits.count_most fits.credit_most (held_most day x s.bounded)
        (standing_stored x fits.count_most)

  -- The mark of a cancelled account bears on no sum.
  pub cancelled_stands : Stands day x (cancelled m) priced
  cancelled_stands = search

  -- Nothing waits to be entered: the end of a call on a cancelled account.
  pub waits_stands : (holidays : List ℕ) → m.unentered ≡ 0 → Stands day x (settled (interest_entered holidays m day) day) priced
  waits_stands holidays none = subst (λ (y : Money). Stands day x y priced) (sym (nothing_waits holidays day s.kept none)) s

  module _ (day_most : day ≤ last_call_day) where
    pub paid_stands : (yen : ℕ) → Stands day (paid day yen x) (settled (received m yen) day) priced
    paid_stands yen =
        record {
          is = rw s.is (paid_is day s.kept yen);
          kept = paid_kept day s.kept yen;
          bounded = paid_bounded day yen x day_most s.bounded;
        }

  module _ (holidays : List ℕ) (listed : list_allowed holidays ≡ true) (day_most : day ≤ last_call_day) where
    closed_stands : (net : ℤ) {after : ℕ} → charge_of net ≤ most_price → length (on_ledger m).open_items ≤ capacity
        → after + below_zero net ≡ priced + above_zero net
        → Stands day (closed holidays day net x) (settled (Book.closed holidays m day net) day) after
    closed_stands net charge places sums =
        record {
          is = rw s.is (closed_is holidays day s.kept net);
          kept = closed_kept holidays day s.kept net sums;
          bounded = closed_bounded holidays day x listed day_most s.bounded net charge (rw s.is places);
        }

    pub posted_stands : length (held_posted holidays day x).open_items ≤ capacity
        → Stands day (held_posted holidays day x) (settled (interest_entered holidays m day) day) priced
    posted_stands places =
        let is : held_posted holidays day x ≡ on_ledger (settled (interest_entered holidays m day) day) = rw s.is (entered_is holidays day s.kept) in
        let none = ap (λ (y : Standing). y.held) is ∙ entered_none holidays day s.kept in
        record {
          is = is;
          kept = entered_kept holidays day s.kept;
          bounded = posted_bounded holidays day x listed day_most s.bounded none places;
        }

-- A closing on a matched account.
pub closing_stands : (holidays : List ℕ) → list_allowed holidays ≡ true
    → {a : Account} {b : Book} {day : ℕ} → Matched a b → Facts a → a.latest ≤ day → day ≤ last_call_day
    → (periods : List Period) {net : ℤ} → net ≡ net_added b.periods periods → charge_of net ≤ most_price
    → Stands day (closed holidays day net (standing a.ledger))
    (settled (Book.closed holidays b.money day (net_added b.periods periods)) day) (prices periods)
closing_stands holidays listed {b = b} w facts h most periods is charge =
    let before = stands w facts h in
    rw is
    (closed_stands before holidays listed most (net_added b.periods periods) (rw is at charge) w.balanced.fits
    (difference (prices periods) (prices b.periods)))
