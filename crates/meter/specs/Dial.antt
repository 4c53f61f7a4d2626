-- Dials: readings are whole m³ (13), and a dial starts again from 0 past its last digit.
use Rattle.std.specs.Prelude.{Bool, cond, ℕ, ◌+◌, ◌-◌, ◌/◌, ◌^◌, ◌≤◌, ◌<◌, leb}

-- A dial of 4 digits has the span 10,000, one of 5 digits 100,000.
unfoldable pub span : ℕ → ℕ
span digits = 10 ^ digits

-- new − old, plus the span if that is negative (H).
unfoldable pub advance : ℕ → ℕ → ℕ → ℕ
advance digits old new = cond (leb old new) (new - old) (new + span digits - old)

-- The test of number 9: an advance of at most half the span.
unfoldable pub within_half : ℕ → ℕ → Bool
within_half digits volume = leb volume (span digits / 2)

-- A dial of 4 or 5 digits: numbers 4 and 5.
abbrev pub Digits : ℕ → Type 0
Digits digits = (4 ≤ digits) × (digits ≤ 5)

pub record OnDial (digits old new : ℕ) : Type 0 where
  pub digits_within : Digits digits
  pub old_within : old < span digits
  pub new_within : new < span digits
