-- The sharing rule as a walk back from the latest period, over any number of periods. Assumes nothing.
use Rattle.common.proofs.Words.{◌≡◌, ◌∙◌, Bool, true, false, cond, not, List, [], ◌∷◌, ◌++◌, reverse, reverse-cons, ℕ, suc, ◌+◌, ◌-◌, ◌≤◌}
use Rattle.common.proofs.Words.{◌<◌, le_refl, add-one, arith, length, length-append, set, drop}
use Rattle.common.proofs.Words.{length-set, length-reverse, get_or-set_same, drop-cons, drop-set-lt, append_snoc}
use mathlib.Core.List.{reverse-append}
use Rattle.lists.proofs.Sum.{total_append, total_reverse}
use Rattle.meter.specs.Sharing.{ceiling, sharers, shares, share_taken, filled_with}
use Rattle.meter.specs.declared.Share.{Share}
use Rattle.meter.proofs.Sharing.{shares_length}

-- The periods behind those of the marks have their parts in `out`. The parts of the marked, of what is left, stand before them in the whole.
pub record Walked (marks : List Bool) (whole : List ℕ) (share : Share) (out : List ℕ) : Type 0 where
  pub periods_left : share.periods ≡ sharers marks
  pub ahead : reverse (shares share.left (reverse marks)) ++ drop (length marks) out ≡ whole

-- the part of a period goes before the parts that are there
before : (x : ℕ) (xs out : List ℕ) (j : ℕ) → j < length out → reverse xs ++ drop j (set out j x) ≡ reverse (x ∷ xs) ++ drop (j + 1) out
before x xs out j h =
    let long : j < length (set out j x) = rw (length-set out j x) h in
    let put = get_or-set_same out j x 0 h in
    let behind = drop-set-lt (suc j) out j x (omega arith) in
    rw (add-one j, reverse-cons x xs, append_snoc (reverse xs) x (drop (suc j) out), drop-cons (set out j x) j 0 long, put, behind)

shared_by : (marks : List Bool) (mark : Bool) → sharers (marks ++ (mark ∷ [])) ≡ sharers marks + cond mark 1 0
shared_by marks mark = omega (arith, total_append (λ shares. cond shares 1 0) marks (mark ∷ []))

turned : (marks : List Bool) → sharers (reverse marks) ≡ sharers marks
turned marks = total_reverse (λ shares. cond shares 1 0) marks

-- The turn of the latest period that has no part yet.
module _ (marks : List Bool) {whole : List ℕ} {share : Share} {out : List ℕ} where
  -- one that shares is among the periods left
  pub one_left : (mark : Bool) → Walked (marks ++ (mark ∷ [])) whole share out → mark ≡ true → 1 ≤ share.periods
  one_left mark now e = omega (arith, rw e at now.periods_left, shared_by marks true)

  pub walked_next : (absent : Bool) → Walked (marks ++ (not absent ∷ [])) whole share out → length marks < length out
      → let next = share_taken absent share.left share.periods in Walked marks whole next (set out (length marks) next.part)
  unfolding share_taken
  walked_next true now room =
      record {
        periods_left = omega (arith, now.periods_left, shared_by marks false);
        ahead =
            before 0 (shares share.left (reverse marks)) out (length marks) room ∙
            rw (reverse-append marks (false ∷ []), length-append marks (false ∷ [])) at now.ahead;
      }
  walked_next false now room =
      record {
        periods_left = omega (arith, now.periods_left, shared_by marks true);
        ahead =
            before part (shares (share.left - part) (reverse marks)) out (length marks) room ∙
            rw (← turn) at (rw (reverse-append marks (true ∷ []), length-append marks (true ∷ [])) at now.ahead);
      }
    where
      part : ℕ
      part = ceiling share.left share.periods

      turn : share.periods ≡ sharers (reverse marks) + 1
      turn = omega (arith, now.periods_left, shared_by marks true, turned marks)

pub left_falls : (absent : Bool) (left periods : ℕ) → (share_taken absent left periods).left ≤ left
unfolding share_taken
left_falls true left periods = le_refl left
left_falls false left periods = omega arith

-- The walk begins where the latest period has its part.
pub walked_first : (marks : List Bool) (pool : ℕ) (lent : List ℕ) → length marks < length lent
    → let first = share_taken false pool (sharers marks + 1) in
    let out = set lent (length marks) first.part in
    Walked marks (filled_with (reverse (shares pool (true ∷ reverse marks))) lent) first out
unfolding share_taken
walked_first marks pool lent h =
    record {
      periods_left = omega arith;
      ahead = rw (← turned marks, long) (before part rest lent (length marks) h);
    }
  where
    part : ℕ
    part = ceiling pool (sharers (reverse marks) + 1)

    rest : List ℕ
    rest = shares (pool - part) (reverse marks)

    long : length (reverse (part ∷ rest)) ≡ length marks + 1
    long = rw (length-reverse (part ∷ rest), shares_length (reverse marks) (pool - part), length-reverse marks, add-one (length marks))

-- It ends where every period has its part.
pub walked_last : {whole : List ℕ} {share : Share} {out : List ℕ} → Walked [] whole share out → out ≡ whole
walked_last w = w.ahead
