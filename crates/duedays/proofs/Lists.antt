-- Lists of closed days by their places. Assumes nothing.
use Rattle.common.proofs.Words.{◌≡◌, refl, sym, Bool, true, false, ◌&&◌, or-true, List, [], ◌∷◌, ℕ, zero, suc, ◌+◌, ◌≤◌, ◌<◌}
use Rattle.common.proofs.Words.{le_of_lt, le_of_suc-le-suc, not-suc-le-zero}
use Rattle.common.proofs.Words.{◌∙◌, add-one, drop, get_or-take, get_or-drop}
use Rattle.common.proofs.Words.{arith, length, get_or, take, leb, eq-eqb, ne_eqb, ltb, leb-true, ltb-true, ltb-false}
use Rattle.common.proofs.Tests.{and_left, and_right}
use Rattle.lists.specs.Every.{every}
use Rattle.common.proofs.Cases.{by_order}
use mathlib.Core.Bool.{and-true, and-false, and_assoc}
use Rattle.std.specs.List.{IsAllAdjacentAnswer, Sorted.IsPartitionedBy, Sorted.IsPartitionPoint}
use Rattle.std.proofs.lemmas.List.Sorted.{IsPartitionedBy-ltb, IsNonDecreasingBy-from_default}
use Rattle.duedays.specs.{Limits.most_listed, Limits.last_due_day, DueDays.listed, DueDays.rising, DueDays.list_allowed, Search.FirstFrom}

-- A day that stands at a place is listed, and one that stands at none is not.
pub listed_at : (holidays : List ℕ) (i : ℕ) → i < length holidays → listed holidays (get_or holidays i 0) ≡ true
listed_at [] i h = absurd (not-suc-le-zero h)
listed_at (holiday ∷ holidays) zero h = rw (eq-eqb holiday holiday refl)
listed_at (holiday ∷ holidays) (suc i) h = rw (listed_at holidays i (le_of_suc-le-suc h), or-true)

pub unlisted : (holidays : List ℕ) (day : ℕ) → ((i : ℕ) → i < length holidays → get_or holidays i 0 ≡ day → ⊥) → listed holidays day ≡ false
unlisted [] day none = refl
unlisted (holiday ∷ holidays) day none =
    rw (ne_eqb holiday day (none 0 (omega arith))) (unlisted holidays day (λ i h. none (suc i) (omega arith)))

-- A list that rises: later places hold later days.
rising_behind : (holiday : ℕ) (holidays : List ℕ) → rising (holiday ∷ holidays) ≡ true → rising holidays ≡ true
rising_behind holiday [] e = refl
rising_behind holiday (next ∷ holidays) e = and_right (ltb holiday next) (rising (next ∷ holidays)) e

above : (holiday : ℕ) (holidays : List ℕ) (i : ℕ) → i < length holidays → rising (holiday ∷ holidays) ≡ true → holiday < get_or holidays i 0
above holiday [] i h e = absurd (not-suc-le-zero h)
above holiday (next ∷ holidays) zero h e = ltb-true holiday next (and_left (ltb holiday next) (rising (next ∷ holidays)) e)
above holiday (next ∷ holidays) (suc i) h e =
    let later = above next holidays i (le_of_suc-le-suc h) (rising_behind holiday (next ∷ holidays) e) in
    omega (arith, later, ltb-true holiday next (and_left (ltb holiday next) (rising (next ∷ holidays)) e))

pub rises : (holidays : List ℕ) (i j : ℕ) → i < j → j < length holidays → rising holidays ≡ true → get_or holidays i 0 < get_or holidays j 0
rises [] i j l h e = absurd (not-suc-le-zero h)
rises (holiday ∷ holidays) i zero l h e = absurd (not-suc-le-zero l)
rises (holiday ∷ holidays) zero (suc j) l h e = above holiday holidays j (le_of_suc-le-suc h) e
rises (holiday ∷ holidays) (suc i) (suc j) l h e =
    rises holidays i j (le_of_suc-le-suc l) (le_of_suc-le-suc h) (rising_behind holiday holidays e)

-- The library's answer to whether each day is before the next.
pub rising_answer : (holidays : List ℕ) (answer : Bool) → IsAllAdjacentAnswer (λ day next b. b ≡ ltb day next) holidays answer
    → answer ≡ rising holidays
rising_answer holidays true each = all_rise holidays (λ k d h. rw (add-one k) at (each k d (omega arith)))
  where
    all_rise : (days : List ℕ) → ((k d : ℕ) → suc k < length days → true ≡ ltb (get_or days k d) (get_or days (suc k) d)) → true ≡ rising days
    all_rise [] each = refl
    all_rise (day ∷ []) each = refl
    all_rise (day ∷ next ∷ days) each =
        rw (sym (each 0 day (omega arith))) (all_rise (next ∷ days) (λ k d h. each (suc k) d (omega arith)))
rising_answer holidays false some = one_falls holidays some.0 (omega (arith, some.1)) (λ d. rw (add-one some.0) at (some.2 d))
  where
    one_falls : (days : List ℕ) (k : ℕ) → suc k < length days → ((d : ℕ) → false ≡ ltb (get_or days k d) (get_or days (suc k) d))
        → false ≡ rising days
    one_falls [] k h falls = absurd (omega arith)
    one_falls (day ∷ []) k h falls = absurd (omega arith)
    one_falls (day ∷ next ∷ days) zero h falls = rw (sym (falls day)) refl
    one_falls (day ∷ next ∷ days) (suc k) h falls = rw (sym (one_falls (next ∷ days) k (omega arith) falls), and-false (ltb day next)) refl

-- The test over a front of a list, with one day more.
pub rising_next : (holidays : List ℕ) (i : ℕ) → suc i < length holidays
    → rising (take (suc (suc i)) holidays) ≡ (rising (take (suc i) holidays) && ltb (get_or holidays i 0) (get_or holidays (suc i) 0))
rising_next [] i h = absurd (not-suc-le-zero h)
rising_next (holiday ∷ []) i h = absurd (not-suc-le-zero (le_of_suc-le-suc h))
rising_next (holiday ∷ next ∷ holidays) zero h = and-true (ltb holiday next)
rising_next (holiday ∷ next ∷ holidays) (suc i) h =
    rw (rising_next (next ∷ holidays) i (le_of_suc-le-suc h)) (sym (and_assoc (ltb holiday next) _ _))

-- What the bounds say.
pub record Allowed (holidays : List ℕ) : Type 0 where
  pub few : length holidays ≤ most_listed
  pub in_order : (i j : ℕ) → i < j → j < length holidays → get_or holidays i 0 < get_or holidays j 0

pub allowed : {holidays : List ℕ} → list_allowed holidays ≡ true → Allowed holidays
unfolding list_allowed
allowed {holidays} e =
    let few = leb (length holidays) most_listed in
    let days = every (λ day. leb day last_due_day) holidays in
    record {
      few = leb-true (length holidays) most_listed (and_left few days (and_left (few && days) (rising holidays) e));
      in_order = λ i j l h. rises holidays i j l h (and_right (few && days) (rising holidays) e);
    }

-- A later place holds no earlier day,
not_falling : {holidays : List ℕ} → Allowed holidays → (i j : ℕ) → i ≤ j → j < length holidays → get_or holidays i 0 ≤ get_or holidays j 0
not_falling {holidays} w i j l h =
    by_order i j (λ below. le_of_lt (w.in_order i j below h)) (λ same. let is : i ≡ j = omega arith in rw is (omega arith))

-- so the days before one stand in front,
pub parted : {holidays : List ℕ} → Allowed holidays → (day : ℕ) → IsPartitionedBy (λ listed. ltb listed day) holidays
parted {holidays} w day =
    IsPartitionedBy-ltb (λ listed. listed) holidays day (IsNonDecreasingBy-from_default (λ listed. listed) holidays 0 (not_falling w))

-- and the place behind them is that of the first day that is not before it.
pub first_from : {holidays : List ℕ} {day at : ℕ} → at ≤ length holidays
    → IsPartitionPoint (λ listed. ltb listed day ≡ true) (λ listed. ltb listed day ≡ false) holidays at → FirstFrom holidays day at
first_from {holidays} {day} within parts =
    record {
      within = within;
      before = λ i h. ltb-true _ day (parts.0 i 0 (omega arith) h);
      behind = λ i h long. ltb-false _ day (parts.1 i 0 h long);
    }

-- A place behind another, in a part of the list from there on.
pub behind_place : (holidays : List ℕ) (at n i : ℕ) → i < n → get_or (take n (drop at holidays)) i 0 ≡ get_or holidays (at + i) 0
behind_place holidays at n i h = get_or-take n (drop at holidays) i 0 h ∙ get_or-drop at holidays i 0

-- A day's place: on to the next day where it is listed there, and else it isn't listed.
module _ {holidays : List ℕ} (w : Allowed holidays) {day at : ℕ} (from : FirstFrom holidays day at) where
  pub from_next : at < length holidays → get_or holidays at 0 ≡ day → FirstFrom holidays (day + 1) (at + 1)
  from_next h e =
      record {
        within = omega arith;
        before = λ i l.
            by_order i at (λ below. omega (arith, from.before i below))
            (λ same. let is : i ≡ at = omega arith in rw (is, e) (omega arith));
        behind = λ i l long. omega (arith, w.in_order at i (omega arith) long);
      }

  pub from_open : (at < length holidays → get_or holidays at 0 ≡ day → ⊥) → listed holidays day ≡ false
  from_open other = unlisted holidays day elsewhere
    where
      elsewhere : (i : ℕ) → i < length holidays → get_or holidays i 0 ≡ day → ⊥
      elsewhere i h e =
          by_order i at (λ below. omega (arith, from.before i below))
          (λ up.
          by_order at i (λ above. omega (arith, w.in_order at i above h, from.behind at (omega arith) (omega arith)))
          (λ down. let is : i ≡ at = omega arith in other (rw is at h) (rw is at e)))
