-- What a status tells: which it is, and the day that it holds.
use Rattle.std.specs.Prelude.{Bool, true, false, ℕ, Result, Ok, Err}
use Rattle.common.specs.declared.Refusal.{Refusal}
use Rattle.common.specs.declared.Refusal.TheVariants as refusals
use Rattle.intake.specs.declared.Status.TheVariants.{New, Supplied, Stopped, Cancelled}
use Rattle.intake.specs.declared.Status.{Status}

abbrev pub is_new : Status → Bool
is_new New = true
is_new (Supplied start) = false
is_new (Stopped stop) = false
is_new Cancelled = false

abbrev pub is_supplied : Status → Bool
is_supplied New = false
is_supplied (Supplied start) = true
is_supplied (Stopped stop) = false
is_supplied Cancelled = false

abbrev pub is_stopped : Status → Bool
is_stopped New = false
is_stopped (Supplied start) = false
is_stopped (Stopped stop) = true
is_stopped Cancelled = false

abbrev pub is_cancelled : Status → Bool
is_cancelled New = false
is_cancelled (Supplied start) = false
is_cancelled (Stopped stop) = false
is_cancelled Cancelled = true

-- The first day of the period that runs on a supplied account, and the day of a stop.
abbrev pub start_of : Status → ℕ
start_of New = 0
start_of (Supplied start) = start
start_of (Stopped stop) = 0
start_of Cancelled = 0

abbrev pub stop_of : Status → ℕ
stop_of New = 0
stop_of (Supplied start) = 0
stop_of (Stopped stop) = stop
stop_of Cancelled = 0

-- The same days where the status allows what is asked of it, and else number 1.
abbrev pub supplied_since : Status → Result ℕ Refusal
supplied_since New = Err refusals.Status
supplied_since (Supplied start) = Ok start
supplied_since (Stopped stop) = Err refusals.Status
supplied_since Cancelled = Err refusals.Status

abbrev pub stopped_on : Status → Result ℕ Refusal
stopped_on New = Err refusals.Status
stopped_on (Supplied start) = Err refusals.Status
stopped_on (Stopped stop) = Ok stop
stopped_on Cancelled = Err refusals.Status
