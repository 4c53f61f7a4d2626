-- A function that never falls cuts the numbers into intervals, each number in one of them. Assumes nothing.
use Rattle.common.proofs.Words.{◌≡◌, ℕ, zero, suc, ◌≤◌, ◌<◌, le_trans, le_refl, arith}
use Rattle.common.proofs.Cases.{by_order}

module _ (f : ℕ → ℕ) (rises : (k : ℕ) → f k ≤ f (suc k)) where
  pub never_falls : (j k : ℕ) → j ≤ k → f j ≤ f k
  never_falls j zero h = let z : j ≡ 0 = omega arith in rw z (le_refl (f 0))
  never_falls j (suc k) h =
      by_order j (suc k) (λ below. le_trans (never_falls j k (omega arith)) (rises k))
      (λ above. let e : j ≡ suc k = omega arith in rw e (le_refl (f (suc k))))

  not_after : (j k n : ℕ) → n < f (suc j) → f k ≤ n → k ≤ j
  not_after j k n a b = by_order j k (λ below. absurd (omega (arith, never_falls (suc j) k below))) (λ above. above)

  -- n lies from f k up to f (suc k) for one k only
  pub one_interval : (j k n : ℕ) → f j ≤ n → n < f (suc j) → f k ≤ n → n < f (suc k) → j ≡ k
  one_interval j k n a b c d = omega (arith, not_after k j n d a, not_after j k n b c)
