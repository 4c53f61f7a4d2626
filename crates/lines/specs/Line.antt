-- What a line comes to, by a list of closed days.
use mathlib.Core.{Bool.cond, List.List}
use Rattle.std.specs.Prelude.{Option, Some, None, ℕ}
use Rattle.duedays.specs.DueDays.{list_allowed}
use Rattle.account.specs.{declared.Account.Account, declared.Outcome.Outcome, Outcomes.outcome, Outcomes.declined}
use Rattle.intake.specs.declared.Call.{Call}
use Rattle.frames.specs.Frames.{parsed}

-- Number 40: not a frame, wrong length, other characters, empty line. It comes before 41.
abbrev pub read_outcome : List ℕ → Account → Option Call → Outcome
read_outcome holidays a (Some call) = outcome holidays a call
read_outcome holidays a None = declined a 40

-- Number 14: a list of closed days that breaks its bounds. It comes before 40, so that every line gives 14.
abbrev pub parsed_outcome : List ℕ → Account → Option Call → Outcome
parsed_outcome holidays a line = cond (list_allowed holidays) (read_outcome holidays a line) (declined a 14)

abbrev pub line_outcome : List ℕ → Account → List ℕ → Outcome
line_outcome holidays a line = parsed_outcome holidays a (parsed line)
