-- When a call is declined for what its account's head and the call itself show: numbers 1 to 11, in document 01's order. 0 stands for none.
use Rattle.std.specs.Prelude.{Bool, cond, ◌&&◌, not, ℕ, ◌+◌, leb, ltb}
use Rattle.tariff.specs.declared.Fuel.{Fuel}
use Rattle.meter.specs.{declared.Meter.Meter, Dial.advance, Dial.within_half, Metering.pool_to}
use Rattle.intake.specs.declared.Call.TheVariants.{Opening, Reading, Missed, Absent, Exchange, Disconnection, Reconnection}
use Rattle.intake.specs.declared.Call.TheVariants.{Cancellation, Payment, StoppedCancellation}
use Rattle.intake.specs.Limits.{day_allowed, digits_allowed, on_dial, fuel_allowed, misses_allowed, volume_allowed, payment_allowed}
use Rattle.intake.specs.Statuses.{is_new, is_supplied, is_stopped, start_of}
use Rattle.intake.specs.{declared.Head.Head, declared.Call.Call, Periods.days_of}

-- a cause that applies has its number, and else the causes after it are looked at
abbrev pub unless : Bool → ℕ → ℕ → ℕ
unless passes number others = cond passes others number

-- 1 to 3: the status allows the call, the day is one that calls take, and no accepted call was later.
abbrev pub begins : Bool → ℕ → ℕ → ℕ → ℕ
begins allowed latest day others = unless allowed 1 (unless (day_allowed day) 2 (unless (leb latest day) 3 others))

-- 9 and 10: the advance is at most half the span, and the pool at most 99,999.
abbrev pub advances : Meter → ℕ → ℕ
advances m reading =
    unless (within_half m.digits (advance m.digits m.dial reading)) 9 (unless (volume_allowed (pool_to m reading)) 10 0)

-- 7: a period has at least one day.
abbrev pub some_day : Head → ℕ → Bool
some_day h day = ltb 0 (days_of (start_of h.status) day)

-- 6 and 7, in all calls that close a period: its fuel prices, and its days.
abbrev pub closes : Head → ℕ → Fuel → ℕ → ℕ
closes h day fuel others = unless (fuel_allowed fuel) 6 (unless (some_day h day) 7 others)

-- 02, 06 and 08: a reading closes the period.
abbrev pub reading_refusal : Head → ℕ → ℕ → Fuel → ℕ
reading_refusal h day reading fuel =
    begins (is_supplied h.status) h.latest day
    (unless (on_dial h.meter.digits reading) 5 (closes h day fuel (advances h.meter reading)))

-- 03 and 04: a missed reading.
abbrev pub miss_refusal : Head → ℕ → Fuel → ℕ
miss_refusal h day fuel =
    begins (is_supplied h.status) h.latest day
    (closes h day fuel (unless (misses_allowed (h.standing + 1)) 8 0))

-- 01 and 07: supply begins at a dial.
abbrev pub dial_refusal : Bool → Head → ℕ → ℕ → ℕ → ℕ
dial_refusal allowed h day reading digits =
    begins allowed h.latest day (unless (digits_allowed digits) 4 (unless (on_dial digits reading) 5 0))

-- 05: meter change.
abbrev pub exchange_refusal : Head → ℕ → ℕ → ℕ → ℕ → ℕ
exchange_refusal h day old new digits =
    begins (is_supplied h.status) h.latest day
    (unless (digits_allowed digits) 4 (unless (on_dial h.meter.digits old && on_dial digits new) 5 (advances h.meter old)))

-- 09: payment.
abbrev pub payment_refusal : Head → ℕ → ℕ → ℕ
payment_refusal h day yen = begins (not (is_new h.status)) h.latest day (unless (payment_allowed yen) 11 0)

-- The causes that need no work done, 1 to 11.
unfoldable pub first_refusal : Head → Call → ℕ
first_refusal h (Opening day reading digits) = dial_refusal (is_new h.status) h day reading digits
first_refusal h (Reading day reading fuel) = reading_refusal h day reading fuel
first_refusal h (Missed day fuel) = miss_refusal h day fuel
first_refusal h (Absent day fuel) = miss_refusal h day fuel
first_refusal h (Exchange day old new digits) = exchange_refusal h day old new digits
first_refusal h (Disconnection day reading fuel) = reading_refusal h day reading fuel
first_refusal h (Reconnection day reading digits) = dial_refusal (is_stopped h.status) h day reading digits
first_refusal h (Cancellation day reading fuel) = reading_refusal h day reading fuel
first_refusal h (Payment day yen) = payment_refusal h day yen
first_refusal h (StoppedCancellation day) = begins (is_stopped h.status) h.latest day 0
