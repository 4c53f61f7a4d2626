-- Numbers of a range.
use Rattle.std.specs.Prelude.{Bool, ◌&&◌, ℕ, leb}

-- a number from low to high
abbrev pub within : ℕ → ℕ → ℕ → Bool
within low high n = leb low n && leb n high
