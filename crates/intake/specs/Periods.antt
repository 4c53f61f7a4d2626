-- The days of a period, and the period that a call closes.
use Rattle.std.specs.Prelude.{cond, ℕ, ◌+◌, ◌-◌, eqb}
use Rattle.tariff.specs.{declared.Fuel.Fuel, declared.BillingPeriod.BillingPeriod}

-- 14(3): the days of a period, its first day and the closing day counted.
abbrev pub days_of : ℕ → ℕ → ℕ
days_of start day = day + 1 - start

-- The period from its first day to a closing on this day: what its price depends on, beside its volume.
abbrev pub closed_period : ℕ → ℕ → Fuel → BillingPeriod
closed_period start day fuel = record { days = days_of start day; closing_day = day; fuel = fuel }

-- 14(3)①: the next period begins the day after a closing.
abbrev pub day_after : ℕ → ℕ
day_after day = day + 1

-- 14(3)②③: a period begins on the day of a resumption, and on the day after it where that is the stop day.
abbrev pub resumed_start : ℕ → ℕ → ℕ
resumed_start stop day = cond (eqb stop day) (day_after day) day
