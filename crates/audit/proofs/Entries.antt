-- The book's settling by prefix sums and the account's queue agree: the queue is the entries that are not settled, read as items. To settle it
-- is to move on what is paid in. Assumes nothing.
use Rattle.common.proofs.Words.{◌≡◌, refl, ap, ap₂, ◌∙◌, ◌⊎◌, inl, inr, false, cond, not, ◌&&◌, List, [], ◌∷◌, ◌++◌, map}
use Rattle.common.proofs.Words.{ℕ, ◌+◌, ◌-◌, ◌≤◌, ◌<◌, min, zero-add, add-zero, le_refl, arith, le-leb, lt-leb}
use native.Mathlib.Nat.{sub-add-eq, zero-mul}
use Rattle.lists.specs.{Sum.total, Every.Every}
use Rattle.lists.proofs.Sum.{total_append}
use Rattle.common.proofs.Cases.{by_test, by_order, by_cond}
use Rattle.ledger.specs.Interest.{is_price, body_of, counted_days, borne, gathered_with, interest_on}
use Rattle.ledger.specs.{declared.Item.Item, Settling.Settlement, Settling.reduced, Settling.with_interest, Settling.settle}
use Rattle.ledger.specs.Settling.{unpaid_of}
use Rattle.ledger.proofs.Interest.{interest_bears_none}
use Rattle.audit.specs.Book.{Entry, body_paid, covering, covered_by, is_settled, brought, arising}

abbrev pub amounts : List Entry → ℕ
amounts = total (λ e. e.amount)

-- An entry read as an item, and the queue.
abbrev pub as_item : Entry → Item
as_item e =
    record {
      amount = e.amount;
      unpaid = e.amount - e.covered;
      share = body_of e.kind e.amount e.obligation - e.covered;
      gathered = e.gathered;
      obligation = e.obligation;
      due = e.due;
      kind = e.kind;
    }

abbrev pub still_open : List Entry → List Item
still_open [] = []
still_open (e ∷ es) = cond (is_settled e) (still_open es) (as_item e ∷ still_open es)

-- Each entry is covered by what of the sum paid in reaches it.
abbrev pub Covers : ℕ → ℕ → List Entry → Type 0
Covers paid earlier [] = Unit {0}
Covers paid earlier (e ∷ es) = (e.covered ≡ min e.amount (paid - earlier)) × Covers paid (earlier + e.amount) es

-- Settling brings that about, and changes no amount.
pub covers_after : (day paid earlier : ℕ) (es : List Entry) → Covers paid earlier (covered_by day paid earlier es)
covers_after day paid earlier [] = tt
covers_after day paid earlier (e ∷ es) = (refl, covers_after day paid (earlier + e.amount) es)

pub amounts_after : (day paid earlier : ℕ) (es : List Entry) → amounts (covered_by day paid earlier es) ≡ amounts es
amounts_after day paid earlier [] = refl
amounts_after day paid earlier (e ∷ es) = rw (amounts_after day paid (earlier + e.amount) es)

-- An entry that no more reaches than did stays as it is, and brings nothing.
covering_same : (day reaching : ℕ) (e : Entry) → e.covered ≡ min e.amount reaching → covering day reaching e ≡ e
covering_same day reaching e same =
    let none : body_paid e e.covered - body_paid e e.covered ≡ 0 = omega arith in
    rw (← same, none, zero-mul (counted_days e.due day), add-zero e.gathered)

brings_none : (e : Entry) → brought e e ≡ 0
brings_none e = by_test (is_settled e) (λ t. rw t) (λ t. rw t)

module _ (day paid more : ℕ) where
  pub covered_same : (earlier : ℕ) (es : List Entry) → more - earlier ≡ paid - earlier → Covers paid earlier es
      → covered_by day more earlier es ≡ es
  covered_same earlier [] h w = refl
  covered_same earlier (e ∷ es) h w =
      ap₂ ◌∷◌ (covering_same day (more - earlier) e (rw h w.0)) (covered_same (earlier + e.amount) es (omega arith) w.1)

  pub none_arising : (earlier : ℕ) (es : List Entry) → more - earlier ≡ paid - earlier → Covers paid earlier es
      → arising day more earlier es ≡ 0
  none_arising earlier [] h w = refl
  none_arising earlier (e ∷ es) h w =
      let same = covering_same day (more - earlier) e (rw h w.0) in
      ap₂ ◌+◌ (ap (brought e) same ∙ brings_none e) (none_arising (earlier + e.amount) es (omega arith) w.1)

-- A part paid of an entry read as an item is what covering makes of the entry, and the last part brings what the book says.
part_is : (day money reaching : ℕ) (e : Entry) → money + e.covered ≡ min e.amount reaching
    → reduced day (as_item e) money ≡ as_item (covering day reaching e)
part_is day money reaching e same = λ i.
    record {
      amount = e.amount;
      unpaid = unpaid i;
      share = share i;
      gathered = gathered i;
      obligation = e.obligation;
      due = e.due;
      kind = e.kind;
    }
  where
    body : ℕ
    body = body_of e.kind e.amount e.obligation

    unpaid : e.amount - e.covered - money ≡ e.amount - min e.amount reaching
    unpaid = omega (arith, same)

    share : body_of e.kind e.amount e.obligation - e.covered - money ≡ body_of e.kind e.amount e.obligation - min e.amount reaching
    share = omega (arith, same)

    paid : min (body_of e.kind e.amount e.obligation - e.covered) money ≡ body_paid e (min e.amount reaching) - body_paid e e.covered
    paid = rw (← same) (omega arith)

    gathered : gathered_with day (as_item e) money ≡ (covering day reaching e).gathered
    gathered = rw paid

last_is : (day reaching : ℕ) (e : Entry) → e.amount - e.covered + e.covered ≡ min e.amount reaching
    → interest_on (as_item e) day ≡ borne e.kind (covering day reaching e).gathered
last_is day reaching e same = ap (λ (x : Item). borne e.kind x.gathered) (part_is day (e.amount - e.covered) reaching e same)

-- The numbers of one entry: what reached it before and reaches it now, the sum of those behind it, and the money.
module _ (amount covered before now rest money : ℕ) (w : covered ≡ min amount before) (m : money + min before (amount + rest) ≡ now) where
  on_whole : amount ≤ covered → money + min (before - amount) rest ≡ now - amount
  on_whole h = omega arith

  reaches : covered < amount → money + covered ≡ now
  reaches h = omega arith

  none_behind : covered < amount → min (before - amount) rest ≡ 0
  none_behind h = omega arith

  on_settled : covered < amount → amount - covered ≤ money → money - (amount - covered) + min (before - amount) rest ≡ now - amount
  on_settled h g = rw (none_behind h) (omega (arith, reaches h))

-- What the book says that settling comes to.
abbrev pub said : ℕ → ℕ → ℕ → List Entry → Settlement
said day paid earlier es =
    record {
      left = paid - (earlier + amounts es);
      open_items = still_open (covered_by day paid earlier es);
      arisen = arising day paid earlier es;
    }

-- An entry by what the money makes of it, where those behind it move on as the book says.
module _ (day paid more money earlier : ℕ) (e : Entry) (es : List Entry) (w : Covers paid earlier (e ∷ es))
    (m : money + min (paid - earlier) (amounts (e ∷ es)) ≡ more - earlier)
    (ahead : (n : ℕ) → n + min (paid - (earlier + e.amount)) (amounts es) ≡ more - (earlier + e.amount)
    → settle day n (still_open es) ≡ said day more (earlier + e.amount) es) where
  abbrev Moves : Type 0
  Moves = settle day money (still_open (e ∷ es)) ≡ said day more earlier (e ∷ es)

  abbrev reaching : ℕ
  reaching = more - earlier

  sums : earlier + (e.amount + amounts es) ≡ earlier + e.amount + amounts es
  sums = omega arith

  rest : (n : ℕ) → n + min (paid - earlier - e.amount) (amounts es) ≡ more - earlier - e.amount
      → settle day n (still_open es) ≡ said day more (earlier + e.amount) es
  rest n h = ahead n (rw (sub-add-eq paid earlier e.amount, sub-add-eq more earlier e.amount) h)

  reach : e.covered < e.amount → money + e.covered ≡ reaching
  reach = reaches e.amount e.covered (paid - earlier) reaching (amounts es) money w.0 m

  -- it was settled before
  was_settled : e.amount ≤ e.covered → Moves
  was_settled h =
      let after = le-leb e.amount (min e.amount reaching) (omega (arith, w.0, m)) in
      let later = rest money (on_whole e.amount e.covered (paid - earlier) reaching (amounts es) money w.0 m h) in
      rw (le-leb e.amount e.covered h, after, sums, zero-add (arising day more (earlier + e.amount) es)) later

  -- it is now
  is_now : e.covered < e.amount → e.amount - e.covered ≤ money → Moves
  is_now h g =
      let all : min e.amount reaching ≡ e.amount = omega (arith, reach h) in
      let after = le-leb e.amount (min e.amount reaching) (rw all (le_refl e.amount)) in
      let part : e.amount - e.covered + e.covered ≡ min e.amount reaching = omega (arith, all) in
      let money-on = on_settled e.amount e.covered (paid - earlier) reaching (amounts es) money w.0 m h g in
      let later = rest (money - (e.amount - e.covered)) money-on in
      rw (lt-leb e.amount e.covered h, le-leb (e.amount - e.covered) money g, after, sums)
      (λ i. with_interest (last_is day reaching e part i) (later i))

  -- it is paid in part
  in_part : e.covered < e.amount → money < e.amount - e.covered → Moves
  in_part h g =
      let part : money + e.covered ≡ min e.amount reaching = omega (arith, reach h) in
      let after = lt-leb e.amount (min e.amount reaching) (omega (arith, reach h)) in
      let none : more - (earlier + e.amount + amounts es) ≡ 0 = omega (arith, reach h) in
      let cut : more - (earlier + e.amount) ≡ paid - (earlier + e.amount) = omega (arith, reach h, w.0) in
      let same = covered_same day paid more (earlier + e.amount) es cut w.1 in
      let brings = none_arising day paid more (earlier + e.amount) es cut w.1 in
      rw (lt-leb e.amount e.covered h, lt-leb (e.amount - e.covered) money g, after, sums, none, same, brings)
      (rw (part_is day money reaching e part))

  moves : Moves
  moves = by_order e.covered e.amount (λ h. by_order money (e.amount - e.covered) (in_part h) (is_now h)) was_settled

-- Settling the queue is moving on what is paid in: the money and what was covered before are what reaches the entries now.
settle_moves : (day paid more money earlier : ℕ) (es : List Entry) → Covers paid earlier es
    → money + min (paid - earlier) (amounts es) ≡ more - earlier
    → settle day money (still_open es) ≡ said day more earlier es
settle_moves day paid more money earlier [] w m =
    let left : money ≡ more - (earlier + 0) = omega arith in
    rw left
settle_moves day paid more money earlier (e ∷ es) w m =
    moves day paid more money earlier e es w m (λ n. settle_moves day paid more n (earlier + e.amount) es w.1)

-- Entries that nothing covers yet, each above zero: the queue has them all.
abbrev pub Fresh : List Entry → Type 0
Fresh = Every (λ e. (e.covered ≡ 0) × (1 ≤ e.amount))

fresh_covers : (paid earlier : ℕ) (es : List Entry) → paid ≤ earlier → Fresh es → Covers paid earlier es
fresh_covers paid earlier [] h fresh = tt
fresh_covers paid earlier (e ∷ es) h fresh =
    (omega (arith, fresh.0.0), fresh_covers paid (earlier + e.amount) es (omega arith) fresh.1)

-- Behind entries that a sum covers, fresh ones are covered by no more than those take of it.
covers_behind : (paid earlier : ℕ) (es behind : List Entry) → Covers paid earlier es → Fresh behind
    → Covers (min paid (earlier + amounts es)) earlier (es ++ behind)
covers_behind paid earlier [] behind w fresh = fresh_covers (min paid (earlier + 0)) earlier behind (omega arith) fresh
covers_behind paid earlier (e ∷ es) behind w fresh =
    let all : earlier + e.amount + amounts es ≡ earlier + (e.amount + amounts es) = omega arith in
    (omega (arith, w.0), rw all at (covers_behind paid (earlier + e.amount) es behind w.1 fresh))

open_behind : (es behind : List Entry) → Fresh behind → still_open (es ++ behind) ≡ still_open es ++ map as_item behind
open_behind [] [] fresh = refl
open_behind [] (e ∷ es) fresh =
    rw (lt-leb e.amount e.covered (omega (arith, fresh.0.0, fresh.0.1))) (ap (as_item e ∷◌) (open_behind [] es fresh.1))
open_behind (e ∷ es) behind fresh =
    let later = open_behind es behind fresh in
    by_test (is_settled e) (λ t. rw t later) (λ t. rw t (ap (as_item e ∷◌) later))

-- Posting behind the queue and settling with more money is entering behind the entries and moving on what is paid in.
pub posting_moves : (day paid more : ℕ) (es behind : List Entry) → Covers paid 0 es → Fresh behind
    → settle day (paid - amounts es + more) (still_open es ++ map as_item behind) ≡ said day (paid + more) 0 (es ++ behind)
posting_moves day paid more es behind w fresh =
    let all = total_append (λ (e : Entry). e.amount) es behind in
    let before = covers_behind paid 0 es behind w fresh in
    rw (← open_behind es behind fresh)
    (settle_moves day (min paid (0 + amounts es)) (paid + more) (paid - amounts es + more) 0 (es ++ behind) before (rw all (omega arith)))

-- What is unpaid of the queue is what of the entries was not reached.
pub unpaid_open : (paid earlier : ℕ) (es : List Entry) → Covers paid earlier es
    → unpaid_of (still_open es) + min (paid - earlier) (amounts es) ≡ amounts es
unpaid_open paid earlier [] w = omega arith
unpaid_open paid earlier (e ∷ es) w =
    let later = unpaid_open paid (earlier + e.amount) es w.1 in
    by_order e.covered e.amount (λ h. rw (lt-leb e.amount e.covered h) (omega (arith, w.0, later)))
    (λ h. rw (le-leb e.amount e.covered h) (omega (arith, w.0, later)))

-- Interest entries behind entries that are covered up to date bring nothing.
pub none_behind_interest : (day paid earlier : ℕ) (es behind : List Entry) → Covers paid earlier es
    → Every (λ e. is_price e.kind ≡ false) behind → arising day paid earlier (es ++ behind) ≡ 0
none_behind_interest day paid earlier [] [] w interest = refl
none_behind_interest day paid earlier [] (e ∷ es) w interest =
    let now = covering day (paid - earlier) e in
    let none = interest_bears_none now.kind now.gathered interest.0 in
    let first : brought e now ≡ 0 = rw none (by_cond (λ n. n ≡ 0) (not (is_settled e) && is_settled now) refl refl) in
    ap₂ ◌+◌ first (none_behind_interest day paid (earlier + e.amount) [] es tt interest.1)
none_behind_interest day paid earlier (e ∷ es) behind w interest =
    let same = covering_same day (paid - earlier) e w.0 in
    ap₂ ◌+◌ (ap (brought e) same ∙ brings_none e) (none_behind_interest day paid (earlier + e.amount) es behind w.1 interest)

-- What is above the entries is 0, or all of them are covered.
none_open : (paid earlier : ℕ) (es : List Entry) → Covers paid earlier es → earlier + amounts es ≤ paid → still_open es ≡ []
none_open paid earlier [] w h = refl
none_open paid earlier (e ∷ es) w h =
    rw (le-leb e.amount e.covered (omega (arith, w.0))) (none_open paid (earlier + e.amount) es w.1 (omega arith))

pub credit_or_none : (paid : ℕ) (es : List Entry) → Covers paid 0 es → (paid - amounts es ≡ 0) ⊎ (still_open es ≡ [])
credit_or_none paid es w =
    by_order paid (amounts es) (λ h. inl (omega arith)) (λ h. inr (none_open paid 0 es w (omega arith)))
