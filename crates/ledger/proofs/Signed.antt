-- A number by its sign. Assumes nothing.
use Rattle.common.proofs.Words.{◌≡◌, false, true≢false, ◌≤◌, arith, T, ℤ, pos, negsuc, nat_abs, lt_z, non_neg, w32, SFits}

pub nonnegative : (net : ℤ) → lt_z net (pos 0) ≡ false → T (non_neg net)
nonnegative (pos n) e = tt
nonnegative (negsuc n) e = absurd (true≢false e)

pub magnitude_most : (net : ℤ) → SFits w32 net → nat_abs net ≤ 2147483648
magnitude_most (pos n) f = omega (arith, f.sfits)
magnitude_most (negsuc n) f = omega (arith, f.sfits)
