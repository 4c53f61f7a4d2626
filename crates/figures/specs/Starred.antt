-- The starred figures of "Worked by hand", as one conjunction about the definitions.
use mathlib.Core.{Path.◌≡◌, Bool.false, List.[], List.◌∷◌}
use Rattle.std.specs.Prelude.{ℕ, negsuc}
use Rattle.tariff.specs.{declared.Fuel.Fuel, declared.BillingPeriod.BillingPeriod, Fuel.average_price, Fuel.steps, Fuel.adjusted_unit, Price.price_of}
use Rattle.meter.specs.{declared.Estimate.Estimate, Dial.advance, Sharing.final_volumes}
use Rattle.ledger.specs.{declared.Kind.TheVariants.Price, Interest.interest_on, Posting.new_item}
use Rattle.closing.specs.Closing.{net_of}

abbrev pub fuel : ℕ → ℕ → Fuel
fuel lng propane = record { lng = lng; propane = propane }

-- Prices at which k is 0.
abbrev pub still : Fuel
still = fuel 83130 75000

-- A period of so many days at these prices, which closes before day 7,213.
abbrev pub closing : ℕ → BillingPeriod
closing days = record { days = days; closing_day = days; fuel = still }

-- A missed period of 30 days and 30 m³ at these prices.
abbrev pub missed : Estimate
missed = record { absent = false; period = closing 30; volume = 30; charged = price_of (closing 30) 30 }

pub record Starred : Type 0 where
  pub average : average_price still ≡ 83090
  pub no_change : steps still ≡ 0
  pub unit_below : adjusted_unit 18000 (fuel 83000 75000) 30 ≡ 17991
  pub unit_above : adjusted_unit 18000 (fuel 85000 75000) 30 ≡ 18150
  pub small_band : price_of (closing 30) 20 ≡ 4850
  pub large_band : price_of (closing 30) 81 ≡ 15820
  pub short_period : price_of (closing 24) 20 ≡ 4600
  pub long_period : price_of (closing 36) 20 ≡ 5040
  pub roll_over : advance 4 9990 15 ≡ 25
  pub one_miss : final_volumes (missed ∷ []) 21 ≡ 10 ∷ 11 ∷ []
  pub one_miss_net : net_of (missed ∷ []) 21 (final_volumes (missed ∷ []) 21) (price_of (closing 30) 11) ≡ negsuc 654
  pub two_misses : final_volumes (missed ∷ missed ∷ []) 50 ≡ 16 ∷ 17 ∷ 17 ∷ []
  pub ten_days_late : interest_on (new_item [] Price 0 4850) 40 ≡ 0
  pub eleven_days_late : interest_on (new_item [] Price 0 4850) 41 ≡ 13
