-- The numbers of an account beside its estimates and its ledger, and what is known of those of every whole account.
use mathlib.Core.{Path.◌≡◌, Bool.true}
use Rattle.std.specs.Prelude.{ℕ, ◌+◌, ◌≤◌, ◌<◌, length}
use Rattle.lists.specs.Every.{Every}
use Rattle.meter.specs.{declared.Meter.Meter, declared.Estimate.Estimate, declared.Estimates.Estimates, Dial.span, Dial.Digits}
use Rattle.meter.specs.Sharing.{standing}
use Rattle.intake.specs.Limits.{most_volume, most_misses, most_days, most_charge, fuel_allowed}
use Rattle.intake.specs.{declared.Status.Status, declared.Head.Head, Statuses.is_supplied, Statuses.start_of}

-- The head behind a call of this day.
abbrev pub head_on : Head → Status → ℕ → Meter → ℕ → Head
head_on h status day meter standing = record { status = status; latest = day; meter = meter; standing = standing }

-- What is known of the head of every whole account. A meter is known once there is supply.
pub record MeterBounds (m : Meter) : Type 0 where
  pub digits_within : Digits m.digits
  pub dial_within : m.dial < span m.digits
  pub pool_most : m.pool ≤ most_volume

pub record SuppliedBounds (h : Head) : Type 0 where
  pub start_most : start_of h.status ≤ h.latest + 1
  pub meter : MeterBounds h.meter

pub record HeadBounds (h : Head) : Type 0 where
  pub basis_most : h.meter.basis ≤ most_volume
  pub supplied : is_supplied h.status ≡ true → SuppliedBounds h

-- and of its estimates.
pub record EstimateBounds (estimate : Estimate) : Type 0 where
  pub days_least : 1 ≤ estimate.period.days
  pub days_most : estimate.period.days ≤ most_days
  pub fuel_allowed : fuel_allowed estimate.period.fuel ≡ true
  pub volume_most : estimate.volume ≤ most_volume
  pub charged_most : estimate.charged ≤ most_charge

-- The estimates of a head: as many stand as it says.
pub record EstimatesFit (h : Head) (estimates : Estimates) : Type 0 where
  pub count_is : estimates.count ≡ h.standing
  pub few : estimates.count ≤ most_misses
  pub long : length estimates.periods ≡ most_misses
  pub within : Every EstimateBounds (standing estimates)
