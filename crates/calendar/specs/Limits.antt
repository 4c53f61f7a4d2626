-- The days of the calendar, by their numbers.
use Rattle.std.specs.Prelude.{ℕ}

-- The first and the last day: 1 January 2000 and 31 December 2099.
abbrev pub first_number : ℕ
first_number = 0

abbrev pub last_number : ℕ
last_number = 36524
