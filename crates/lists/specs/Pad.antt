-- A list as an array holds it: from the front, blanks behind it.
use Rattle.std.specs.Prelude.{List, ◌++◌, ℕ, ◌-◌, length, replicate}

abbrev pub pad : {A : Type 0} → ℕ → A → List A → List A
pad size blank xs = xs ++ replicate (size - length xs) blank
