-- Of what the system reads no contract can name the bytes: a list that some file `closed` has, and a state that some input leaves by it.
-- Where a reader's bytes are known, and what a writer holds, they are named.
use mathlib.Core.{Path.◌≡◌, Bool.Bool, Bool.cond, List.List, List.[], List.◌++◌}
use Rattle.std.specs.Prelude.{ℕ, Option}
use Rattle.std.specs.Io.KnownBytes.{Appends}
use Rattle.text.specs.Pieces.{Finished}
use Rattle.closedfile.specs.{declared.ClosedDays.ClosedDays, ClosedFile.list_in, ClosedFile.held}
use Rattle.lines.specs.declared.State.{State}
use Rattle.driver.specs.declared.Feeder.{Feeder}

pub record FromFile (list : ClosedDays) : Type 0 where
  pub file : List ℕ
  pub list_is : list ≡ held (list_in file)

pub record Served (s : State) : Type 0 where
  pub file : List ℕ
  pub finished : Finished (list_in file) s

-- What is printed of a text: all of it or nothing.
abbrev pub printed : Bool → List ℕ → List ℕ
printed is_printing text = cond is_printing text []

-- What an output has grown by is printed to a writer, which held `before` and then holds `after`.
pub record Prints (is_printing : Bool) (output grown : List ℕ) (before after : Option (List ℕ)) : Type 0 where
  pub more : List ℕ
  pub grown_is : grown ≡ output ++ more
  pub appended : Appends before after (printed is_printing more)

-- A feeder whose output holds something else, and that is the same in all else.
abbrev pub with_output : {W : Type 0} → Feeder W → W → Feeder W
with_output f holds = record f { output = record f.output { now = holds } }
