-- The account's ledger and the book's money: the queue is the entries that are not settled, and the credit what was paid in above them all.
-- Assumes nothing.
use Rattle.common.proofs.Words.{◌≡◌, refl, ap, ap₂, sym, subst, ◌∙◌, Bool, true, false, cond, List, [], ◌∷◌, ◌++◌, map, map-append, append-nil, ℕ, ◌+◌}
use Rattle.common.proofs.Words.{◌-◌, ◌≤◌, ◌<◌, zero-add, add-zero, sub_self, sub-zero, arith, ltb, ℤ, pos, negsuc, length, lt-ltb}
use Rattle.lists.specs.Every.{Every}
use Rattle.common.proofs.Cases.{by_test, by_zero}
use Rattle.lists.proofs.{Sum.total_append, Every.every_append}
use Rattle.ledger.specs.Posting.{Standing, standing, stored, settled_with, new_item, entered, post, paid, held_posted, charge_of, credit_of}
use Rattle.ledger.specs.{declared.Kind.Kind, declared.Kind.TheVariants.Interest, declared.Kind.TheVariants.Price, declared.Ledger.Ledger}
use Rattle.ledger.specs.{Interest.is_price, Interest.body_of, Settling.unpaid_of, Limits.capacity}
use Rattle.ledger.proofs.{Tallies.with_held, Bounds.standing_stored}
use Rattle.audit.specs.Book.{Entry, Money, entry, entered_as, arising, covered_by, above_zero, below_zero, paid_in, settled, received}
use Rattle.audit.specs.Book.{interest_entered, cancelled, finished}
use Rattle.audit.proofs.Entries.{amounts, as_item, still_open, Covers, Fresh, said, covers_after, amounts_after, covered_same, none_arising}
use Rattle.audit.proofs.Entries.{posting_moves, unpaid_open, none_behind_interest}
use Rattle.ledger.specs.Posting
use Rattle.audit.specs.Book

-- What the book says stands on the ledger.
abbrev pub on_ledger : Money → Standing
on_ledger m = record { open_items = still_open m.entries; credit = paid_in m - amounts m.entries; held = m.unentered }

-- What the book keeps to, whatever stands on the account.
pub record Kept (m : Money) (priced : ℕ) : Type 0 where
  pub covers : Covers (paid_in m) 0 m.entries
  -- items entered + interest not yet entered = prices + credited nets + interest arisen
  pub sums : amounts m.entries + m.unentered ≡ priced + m.credited + m.arisen

-- The account's ledger is what the book says stands.
pub record Balanced (ledger : Ledger) (m : Money) (priced : ℕ) : Type 0 where
  pub stored_as : ledger ≡ stored (on_ledger m)
  pub fits : length (on_ledger m).open_items ≤ capacity
  pub kept : Kept m priced

pub standing_is : {ledger : Ledger} {m : Money} {priced : ℕ} → Balanced ledger m priced → standing ledger ≡ on_ledger m
standing_is {ledger} {m} w = ap standing w.stored_as ∙ standing_stored (on_ledger m) w.fits

-- More is paid in, and new entries come behind.
record Adds (m after : Money) : Type 0 where
  more : ℕ
  behind : List Entry
  entries_are : after.entries ≡ m.entries ++ behind
  paid_is : paid_in after ≡ paid_in m + more
  fresh : Fresh behind

-- Posting to what stands, and entering in the book, come to the same, up to the settling of the day.
module _ (day : ℕ) {m : Money} {priced : ℕ} (kept : Kept m priced) {after : Money} (adds : Adds m after) where
  open adds use {more, behind, entries_are, paid_is, fresh}

  posted_is : post day more (map as_item behind) (with_held after.unentered (on_ledger m)) ≡ on_ledger (settled after day)
  unfolding post
  posted_is =
      let moved = posting_moves day (paid_in m) more m.entries behind kept.covers fresh in
      let same = ap₂ (λ (p : ℕ) (es : List Entry). said day p 0 es) (sym paid_is) (sym entries_are) in
      let total = zero-add (amounts after.entries) ∙ sym (amounts_after day (paid_in after) 0 after.entries) in
      ap (settled_with (with_held after.unentered (on_ledger m))) (moved ∙ same) ∙
      (λ i. record {
        open_items = still_open (covered_by day (paid_in after) 0 after.entries);
        credit = paid_in after - total i;
        held = after.unentered + arising day (paid_in after) 0 after.entries;
      })

-- The settling of a day keeps the book.
kept_settled : (day : ℕ) (m : Money) {priced : ℕ} → amounts m.entries + m.unentered ≡ priced + m.credited + m.arisen
    → Kept (settled m day) priced
kept_settled day m sums =
    record {
      covers = covers_after day (paid_in m) 0 m.entries;
      sums = rw (amounts_after day (paid_in m) 0 m.entries) (omega (arith, sums));
    }

-- Where the book is up to date the settling of a day changes nothing in it.
pub settled_same : (day : ℕ) {m : Money} {priced : ℕ} → Kept m priced → settled m day ≡ m
settled_same day {m} kept =
    let none = none_arising day (paid_in m) (paid_in m) 0 m.entries refl kept.covers in
    let same = covered_same day (paid_in m) (paid_in m) 0 m.entries refl kept.covers in
    rw (none, add-zero m.arisen, add-zero m.unentered, same)

-- What is entered.
module _ (holidays : List ℕ) (kind : Kind) (day amount : ℕ) where
  as_new : as_item (entry holidays kind day amount) ≡ new_item holidays kind day amount
  as_new = rw (sub-zero amount, sub_self amount, sub-zero (body_of kind amount day))

  items_entered : map as_item (entered_as holidays kind day amount) ≡ entered holidays kind day amount
  unfolding entered
  items_entered = by_test (ltb 0 amount) (λ e. rw e (ap (λ x. x ∷ []) as_new)) (λ e. rw e)

  by_entered : (P : List Entry → Type 0) → (amount ≡ 0 → P []) → (0 < amount → P (entry holidays kind day amount ∷ []))
      → P (entered_as holidays kind day amount)
  by_entered P none some = by_zero amount (λ e. rw e (none e)) (λ l. rw (lt-ltb 0 amount l) (some l))

  fresh_entered : Fresh (entered_as holidays kind day amount)
  fresh_entered = by_entered Fresh (λ e. tt) (λ l. ((refl, l), tt))

  amounts_entered : amounts (entered_as holidays kind day amount) ≡ amount
  amounts_entered = by_entered (λ es. amounts es ≡ amount) (λ e. sym e) (λ l. add-zero amount)

-- Interest entries bear none.
interest_entries : (holidays : List ℕ) (day amount : ℕ) → Every (λ e. is_price e.kind ≡ false) (entered_as holidays Interest day amount)
interest_entries holidays day amount =
    by_entered holidays Interest day amount (Every (λ e. is_price e.kind ≡ false)) (λ e. tt) (λ l. (refl, tt))

signs_are : (net : ℤ) → (above_zero net ≡ charge_of net) × (below_zero net ≡ credit_of net)
signs_are (pos n) = (refl, refl)
signs_are (negsuc n) = (refl, refl)

-- A payment.
module _ (day : ℕ) {m : Money} {priced : ℕ} (kept : Kept m priced) (yen : ℕ) where
  pays : Adds m (received m yen)
  pays = record { more = yen; behind = []; entries_are = sym (append-nil m.entries); paid_is = omega arith; fresh = tt }

  pub paid_is : paid day yen (on_ledger m) ≡ on_ledger (settled (received m yen) day)
  unfolding paid pays
  paid_is = posted_is day kept pays

  pub paid_kept : Kept (settled (received m yen) day) priced
  paid_kept = kept_settled day (received m yen) kept.sums

-- What goes by the list of closed days.
module _ (holidays : List ℕ) (day : ℕ) {m : Money} {priced : ℕ} (kept : Kept m priced) where
  abbrev interest : List Entry
  interest = entered_as holidays Interest day m.unentered

  -- A closing.
  module _ (net : ℤ) where
    abbrev charge : List Entry
    charge = entered_as holidays Price day (above_zero net)

    closes : Adds m (Book.closed holidays m day net)
    closes =
        record {
          more = below_zero net;
          behind = interest ++ charge;
          entries_are = refl;
          paid_is = omega arith;
          fresh =
              every_append (λ (e : Entry). (e.covered ≡ 0) × (1 ≤ e.amount)) interest charge
              (fresh_entered holidays Interest day m.unentered) (fresh_entered holidays Price day (above_zero net));
        }

    pub closed_is : Posting.closed holidays day net (on_ledger m) ≡ on_ledger (settled (Book.closed holidays m day net) day)
    unfolding Posting.closed closes
    closed_is =
        let held = items_entered holidays Interest day m.unentered in
        let charged = items_entered holidays Price day (above_zero net) in
        rw (← (signs_are net).1, ← (signs_are net).0, ← held, ← charged, ← map-append as_item interest charge)
        (posted_is day kept closes)

    pub closed_kept : {after : ℕ} → after + below_zero net ≡ priced + above_zero net → Kept (settled (Book.closed holidays m day net) day) after
    closed_kept e =
        let all = total_append (λ (x : Entry). x.amount) m.entries (interest ++ charge) in
        let new = total_append (λ (x : Entry). x.amount) interest charge in
        let held = amounts_entered holidays Interest day m.unentered in
        let charged = amounts_entered holidays Price day (above_zero net) in
        kept_settled day (Book.closed holidays m day net) (omega (arith, all, new, held, charged, kept.sums))

  -- Interest not yet entered is entered by itself, and what is over reaches it too.
  abbrev pub posts : Money
  posts = settled (interest_entered holidays m day) day

  enters : Adds m (interest_entered holidays m day)
  enters =
      record {
        more = 0;
        behind = interest;
        entries_are = refl;
        paid_is = sym (add-zero (paid_in m));
        fresh = fresh_entered holidays Interest day m.unentered;
      }

  pub entered_is : held_posted holidays day (on_ledger m) ≡ on_ledger posts
  unfolding held_posted enters
  entered_is = rw (← items_entered holidays Interest day m.unentered) (posted_is day kept enters)

  pub entered_kept : Kept posts priced
  entered_kept =
      let all = total_append (λ (x : Entry). x.amount) m.entries interest in
      kept_settled day (interest_entered holidays m day)
      (omega (arith, all, amounts_entered holidays Interest day m.unentered, kept.sums))

  -- It brings nothing, and nothing waits then.
  pub entered_none : posts.unentered ≡ 0
  entered_none = zero-add _ ∙ none_behind_interest day (paid_in m) 0 m.entries interest kept.covers (interest_entries holidays day m.unentered)

  -- Where nothing waits to be entered, entering it changes nothing.
  pub nothing_waits : m.unentered ≡ 0 → posts ≡ m
  nothing_waits none =
      let same : interest_entered holidays m day ≡ m = rw (none, append-nil m.entries) in
      ap (λ x. settled x day) same ∙ settled_same day kept

-- The second sum, of what stands and what the book keeps.
pub yen_sum : {m : Money} {priced : ℕ} → Kept m priced
    → m.received + unpaid_of (on_ledger m).open_items + m.unentered ≡ priced + m.arisen + (on_ledger m).credit
yen_sum {m} {priced} kept = omega (arith, unpaid_open (paid_in m) 0 m.entries kept.covers, kept.sums)

-- The end of a call, on an account that is cancelled and on one that is not.
module _ (holidays : List ℕ) (m : Money) (day : ℕ) where
  abbrev by_mark : Bool → Money
  by_mark mark = cond mark (settled (interest_entered holidays (settled m day) day) day) (settled m day)

  pub finished_open : m.is_cancelled ≡ false → finished holidays m day ≡ settled m day
  finished_open e = ap by_mark e

  pub finished_cancelled : m.is_cancelled ≡ true → finished holidays m day ≡ settled (interest_entered holidays (settled m day) day) day
  finished_cancelled e = ap by_mark e

-- A ledger that a call leaves alone is what the book says stands after the settling of the day.
pub quiet_balanced : (day : ℕ) {ledger : Ledger} {m : Money} {priced : ℕ} → Balanced ledger m priced
    → Balanced ledger (settled m day) priced
quiet_balanced day {ledger} {m} {priced} w = subst (λ (x : Money). Balanced ledger x priced) (sym (settled_same day w.kept)) w
