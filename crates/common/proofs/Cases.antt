-- Proof by cases: a test and its answer, two numbers by their order, a number that is 0 or not. Assumes nothing.
use Rattle.common.proofs.Words.{◌≡◌, refl, ⊎_elim, Bool, true, false, cond, ℕ, ◌≤◌, ◌<◌, eq-zero-or-pos, arith, ltb, ltb-true}
use Rattle.common.proofs.Words.{ltb-false}

pub by_test : {P : Type 0} (b : Bool) → (b ≡ true → P) → (b ≡ false → P) → P
by_test true holds fails = holds refl
by_test false holds fails = fails refl

pub by_order : {P : Type 0} (a b : ℕ) → (a < b → P) → (b ≤ a → P) → P
by_order a b below above = by_test (ltb a b) (λ e. below (ltb-true a b e)) (λ e. above (ltb-false a b e))

pub by_zero : {P : Type 0} (n : ℕ) → (n ≡ 0 → P) → (0 < n → P) → P
by_zero n none some = ⊎_elim none some (eq-zero-or-pos n)

-- what holds of both holds of either
pub by_cond : {A : Type 0} (P : A → Type 0) (b : Bool) {x y : A} → P x → P y → P (cond b x y)
by_cond P true first second = first
by_cond P false first second = second

pub cond_most : (b : Bool) (n : ℕ) → cond b n 0 ≤ n
cond_most b n = by_cond (λ m. m ≤ n) b (omega arith) (omega arith)
