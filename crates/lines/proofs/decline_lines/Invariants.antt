-- The lines so far are answered 14 (`Declining`).
use Rattle.common.proofs.Words.{◌-◌, length}
use Rattle.lines.proofs.Declining.{Declining}
use Rattle.lines.proofs.decline_lines.Given as goal

abbrev pub invariant-loop-line : goal.invariant-loop-line
invariant-loop-line l = Declining l.input l.fn.out l.fn.state l.taken l.written l.line l.out

abbrev pub decreases-loop-line : goal.decreases-loop-line
decreases-loop-line l = length l.input - l.taken
