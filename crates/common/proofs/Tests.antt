-- From tests to facts and back. Assumes nothing.
use Rattle.common.proofs.Words.{◌≡◌, sym, ◌∙◌, ◌⊎◌, inl, inr, ⊎_elim, Bool, true, false, ◌&&◌, ◌||◌, not, and-eq-true_iff, or-true}
use Rattle.common.proofs.Words.{ℕ, ◌≤◌, ◌<◌, eq-zero-or-pos, arith, eqb, leb-true, le-leb, eqb-true, eq-eqb, ne_eqb, not-true}
use Rattle.common.proofs.Words.{not-false}
use Rattle.common.specs.Range.{within}

-- A test as a call answers it, where the code refuses by `!answer` and where it goes on.
pub answered_no : {answer test : Bool} → answer ≡ test → not answer ≡ true → test ≡ false
answered_no {answer} e n = sym e ∙ not-true answer n

pub answered_yes : {answer test : Bool} → answer ≡ test → not answer ≡ false → test ≡ true
answered_yes {answer} e n = sym e ∙ not-false answer n

pub and_both : {a b : Bool} → (a && b) ≡ true → (a ≡ true) × (b ≡ true)
and_both {a} {b} e = (and-eq-true_iff a b).0 e

pub and_left : (a b : Bool) → (a && b) ≡ true → a ≡ true
and_left a b e = ((and-eq-true_iff a b).0 e).0

pub and_right : (a b : Bool) → (a && b) ≡ true → b ≡ true
and_right a b e = ((and-eq-true_iff a b).0 e).1

pub and_intro : {a b : Bool} → a ≡ true → b ≡ true → (a && b) ≡ true
and_intro {a} {b} p q = (and-eq-true_iff a b).1 (p, q)

pub within_true : (low high n : ℕ) → within low high n ≡ true → (low ≤ n) × (n ≤ high)
within_true low high n e = let both = and_both e in (leb-true low n both.0, leb-true n high both.1)

pub within_intro : (low high n : ℕ) → low ≤ n → n ≤ high → within low high n ≡ true
within_intro low high n l h = and_intro (le-leb low n l) (le-leb n high h)

-- one of two tests that a number is 0
pub either_zero : (m n : ℕ) → (eqb m 0 || eqb n 0) ≡ true → (m ≡ 0) ⊎ (n ≡ 0)
either_zero m n e =
    ⊎_elim inl (λ (some : 0 < m). inr (eqb-true n 0 (rw (ne_eqb m 0 (λ z. omega arith)) at e))) (eq-zero-or-pos m)

pub zero_either : (m n : ℕ) → (m ≡ 0) ⊎ (n ≡ 0) → (eqb m 0 || eqb n 0) ≡ true
zero_either m n h = ⊎_elim (λ (p : m ≡ 0). rw (eq-eqb m 0 p)) (λ (q : n ≡ 0). rw (eq-eqb n 0 q) (or-true (eqb m 0))) h
