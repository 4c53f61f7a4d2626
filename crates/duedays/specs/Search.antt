-- A day among the places of a list of closed days.
use Rattle.std.specs.Prelude.{List, ℕ, ◌≤◌, ◌<◌, length, get_or}

-- The place of the first listed day that is not before the day.
pub record FirstFrom (holidays : List ℕ) (day at : ℕ) : Type 0 where
  pub within : at ≤ length holidays
  pub before : (i : ℕ) → i < at → get_or holidays i 0 < day
  pub behind : (i : ℕ) → at ≤ i → i < length holidays → day ≤ get_or holidays i 0
