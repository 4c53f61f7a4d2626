-- Why a call is declined, by the numbers of the documents.
use Rattle.std.specs.Prelude.{ℕ, Result, Ok, Err}
use Rattle.common.specs.declared.Refusal.{Refusal}
use Rattle.common.specs.declared.Refusal.TheVariants.{Status, LateDay, EarlyDay, Digits, OffDial, FuelPrice, NoDays, SeventhMiss}
use Rattle.common.specs.declared.Refusal.TheVariants.{AboveHalfSpan, LargePool, Payment, ManyItems, LargeCredit, ClosedDays, NotAFrame}
use Rattle.common.specs.declared.Refusal.TheVariants.{NotWhole}

abbrev pub number_of : Refusal → ℕ
number_of Status = 1  -- the account's status doesn't allow the call
number_of LateDay = 2  -- a day above 36,094
number_of EarlyDay = 3  -- a day before the latest accepted call
number_of Digits = 4  -- digits that are not 4 or 5
number_of OffDial = 5  -- a reading not below its dial's span
number_of FuelPrice = 6  -- a fuel price above 300,000 or no multiple of 10
number_of NoDays = 7  -- a closing with a period of 0 days
number_of SeventhMiss = 8  -- a seventh miss
number_of AboveHalfSpan = 9  -- an advance above half the span
number_of LargePool = 10  -- a pool above 99,999
number_of Payment = 11  -- a payment of 0 or above 99,999,999
number_of ManyItems = 12  -- more than 72 items open
number_of LargeCredit = 13  -- a credit above 999,999,999
number_of ClosedDays = 14  -- a list of closed days that breaks its bounds
number_of NotAFrame = 40  -- a line that is no frame
number_of NotWhole = 41  -- an account that isn't whole

-- The number that a result tells: 0 where nothing is declined.
abbrev pub told : {T : Type 0} → Result T Refusal → ℕ
told (Ok x) = 0
told (Err refusal) = number_of refusal
