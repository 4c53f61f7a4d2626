-- A file `closed` read line by line.
use mathlib.Core.{Path.◌≡◌, Bool.true, Bool.cond, Bool.◌&&◌, List.List, List.◌∷◌}
use Rattle.std.specs.Prelude.{Option, Some, None, ℕ, get_or, take, drop, eqb}
use Rattle.frames.specs.Digits.{line_feed, number_of}
use Rattle.text.specs.Lines.{lines_of}
use Rattle.closedfile.specs.ClosedFile.{is_day_line}

-- The day of the line that some characters begin with: four digits, and then LF or the end.
abbrev pub day_in : List ℕ → Option ℕ
day_in text = cond (is_day_line (take 4 text) && eqb (get_or text 4 line_feed) line_feed) (Some (number_of (take 4 text))) None

-- A line of the form lies at the front of what is to be read.
pub record DayLine (file : List ℕ) (day : ℕ) : Type 0 where
  pub is_day : is_day_line (take 4 file) ≡ true
  pub day_is : day ≡ number_of (take 4 file)
  pub splits : lines_of file ≡ take 4 file ∷ lines_of (drop 5 file)
