-- The characters kept of a line that has begun.
use mathlib.Core.{Bool.cond, List.List}
use Rattle.std.specs.Prelude.{ℕ, suc, set, replicate, ltb}

-- One character more than the longest frame is kept of a line, enough to know that it is none.
abbrev pub kept_most : ℕ
kept_most = 31

abbrev pub blank_line : List ℕ
blank_line = replicate kept_most 0

-- How many characters are kept, at the front of an array.
pub record Begun : Type 0 where
  pub length : ℕ
  pub characters : List ℕ

abbrev pub begun_with : ℕ → List ℕ → Begun
begun_with length characters = record { length = length; characters = characters }

-- No line has begun.
abbrev pub none_begun : Begun
none_begun = record { length = 0; characters = blank_line }

-- A character is kept where there is room for it.
abbrev pub keeping : Begun → ℕ → Begun
keeping b c = cond (ltb b.length kept_most) (record { length = suc b.length; characters = set b.characters b.length c }) b
