-- What a result tells: 0 where nothing is declined, and a number above it otherwise. Assumes nothing.
use Rattle.std.proofs.Common.{◌≡◌, ◌≤◌, Result, Ok, Err, IsOk, refl, arith}
use Rattle.common.specs.declared.Refusal.{Refusal}
use Rattle.common.specs.declared.Refusal.TheVariants.{Status, LateDay, EarlyDay, Digits, OffDial, FuelPrice, NoDays, SeventhMiss}
use Rattle.common.specs.declared.Refusal.TheVariants.{AboveHalfSpan, LargePool, Payment, ManyItems, LargeCredit, ClosedDays, NotAFrame}
use Rattle.common.specs.declared.Refusal.TheVariants.{NotWhole}
use Rattle.common.specs.Refusals.{number_of, told}

pub number_some : (refusal : Refusal) → 1 ≤ number_of refusal
number_some Status = omega arith
number_some LateDay = omega arith
number_some EarlyDay = omega arith
number_some Digits = omega arith
number_some OffDial = omega arith
number_some FuelPrice = omega arith
number_some NoDays = omega arith
number_some SeventhMiss = omega arith
number_some AboveHalfSpan = omega arith
number_some LargePool = omega arith
number_some Payment = omega arith
number_some ManyItems = omega arith
number_some LargeCredit = omega arith
number_some ClosedDays = omega arith
number_some NotAFrame = omega arith
number_some NotWhole = omega arith

pub told_none : {T : Type 0} (r : Result T Refusal) → told r ≡ 0 → IsOk r
told_none (Ok x) e = refl
told_none (Err refusal) e = let some = number_some refusal in absurd (omega arith)
