-- What becomes of a meter's numbers: its digits, its dial, the pool and the basis of missed readings, which is the volume of the nearest
-- period that wasn't an 04 period (14(4); request e of document 02).
use Rattle.std.specs.Prelude.{Bool, cond, ℕ, ◌+◌}
use Rattle.meter.specs.{declared.Meter.Meter, Dial.advance}

-- The meter with other numbers.
abbrev pub with : Meter → ℕ → ℕ → ℕ → ℕ → Meter
with m digits dial pool basis = record { digits = digits; dial = dial; pool = pool; basis = basis }

-- The pool with the advance to a reading of the dial under supply.
abbrev pub pool_to : Meter → ℕ → ℕ
pool_to m reading = m.pool + advance m.digits m.dial reading

-- Opening and resumption set the dial; what it turned while stopped is not billed (H).
abbrev pub set_on : Meter → ℕ → ℕ → Meter
set_on m digits reading = with m digits reading m.pool m.basis

-- A meter change adds the old meter's advance to the pool and goes on with the new meter.
abbrev pub exchanged_for : Meter → ℕ → ℕ → ℕ → Meter
exchanged_for m old new digits = with m digits new (pool_to m old) m.basis

-- A real closing reading: the pool is used up, and this volume is the period's, the basis from then on.
abbrev pub read_at : Meter → ℕ → ℕ → Meter
read_at m reading volume = with m m.digits reading 0 volume

-- A missed reading: the dial was not seen, and the pool waits. An 03 period's volume is the basis from then on, an 04 period's isn't.
abbrev pub missed_at : Meter → Bool → ℕ → Meter
missed_at m absent volume = with m m.digits m.dial m.pool (cond absent m.basis volume)
