-- The limits that calls keep to: the tests behind the numbers of "When a call is declined".
use Rattle.std.specs.Prelude.{Bool, ◌&&◌, ℕ, ◌%◌, leb, ltb, eqb}
use Rattle.common.specs.Range.{within}
use Rattle.tariff.specs.declared.Fuel.{Fuel}
use Rattle.meter.specs.Dial.{span}
use Rattle.ledger.specs.Limits.{last_call_day}
pub use Rattle.tariff.specs.Limits.{most_days, most_fuel_price, most_volume, most_charge}
pub use Rattle.meter.specs.Limits.{most_misses}

-- A payment in yen.
abbrev pub most_payment : ℕ
most_payment = 99999999

-- 2: calls take the days 0 to 36,094.
abbrev pub day_allowed : ℕ → Bool
day_allowed day = leb day last_call_day

-- 4: digits are 4 or 5.
abbrev pub digits_allowed : ℕ → Bool
digits_allowed digits = within 4 5 digits

-- 5: a reading is below its dial's span.
abbrev pub on_dial : ℕ → ℕ → Bool
on_dial digits reading = ltb reading (span digits)

-- 6: a fuel price is at most 300,000 and a multiple of 10.
abbrev pub price_allowed : ℕ → Bool
price_allowed price = leb price most_fuel_price && eqb (price % 10) 0

abbrev pub fuel_allowed : Fuel → Bool
fuel_allowed fuel = price_allowed fuel.lng && price_allowed fuel.propane

-- 8: at most six misses stand estimated.
abbrev pub misses_allowed : ℕ → Bool
misses_allowed count = leb count most_misses

-- 10: pool and volumes are at most 99,999 m³.
abbrev pub volume_allowed : ℕ → Bool
volume_allowed volume = leb volume most_volume

-- 11: a payment is of 1 to 99,999,999 yen.
abbrev pub payment_allowed : ℕ → Bool
payment_allowed yen = within 1 most_payment yen
