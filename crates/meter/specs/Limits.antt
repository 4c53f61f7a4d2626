-- How many estimates can stand.
use Rattle.std.specs.Prelude.{ℕ}

-- Misses that stand estimated.
abbrev pub most_misses : ℕ
most_misses = 6
