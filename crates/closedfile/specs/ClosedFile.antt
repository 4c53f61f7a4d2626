-- The file `closed`: four lower-case hexadecimal digits a line. LF ends a line, the last may lack it.
use mathlib.Core.{Bool.Bool, Bool.cond, Bool.◌&&◌, List.List, List.[], List.◌∷◌, List.map}
use Rattle.std.specs.Prelude.{ℕ, ◌+◌}
use lib.{Dec.eqb, ListN.length}
use Rattle.lists.specs.{Every.every, Pad.pad}
use Rattle.duedays.specs.{Limits.most_listed, Limits.last_due_day, DueDays.list_allowed}
use Rattle.frames.specs.Digits.{is_digit, number_of}
use Rattle.text.specs.Lines.{lines_of}
use Rattle.closedfile.specs.declared.ClosedDays.{ClosedDays}

-- A line of the form.
abbrev pub is_day_line : List ℕ → Bool
is_day_line line = eqb (length line) 4 && every is_digit line

-- The days of a file's lines.
abbrev pub days_in : List ℕ → List ℕ
days_in file = map number_of (lines_of file)

-- A file of the form: its lines are, and their days are strictly rising, at most 400, each at most 36,524.
unfoldable pub is_formed : List ℕ → Bool
is_formed file = every is_day_line (lines_of file) && list_allowed (days_in file)

-- A file of another form counts as a list that breaks the bounds.
abbrev pub broken_list : List ℕ
broken_list = (last_due_day + 1) ∷ []

-- The list of closed days that a file has.
unfoldable pub list_in : List ℕ → List ℕ
list_in file = cond (is_formed file) (days_in file) broken_list

-- A list as an array holds it.
abbrev pub held : List ℕ → ClosedDays
held days = record { count = length days; days = pad most_listed 0 days }

-- No file of the form is longer: 400 lines of four digits and LF.
abbrev pub longest_file : ℕ
longest_file = 2000
