-- The digits that are left of what remains, and behind them those that are put, are those of the number.
use Rattle.std.proofs.Common.{◌≡◌, ◌++◌, drop}
use Rattle.frames.specs.Digits.{digits}
use Rattle.answers.proofs.put_decimal.Given as goal

abbrev pub invariant-loop-i : goal.invariant-loop-i
invariant-loop-i g l = digits 10 g.row.DIGITS l.fn.value ≡ digits 10 l.i l.rest ++ drop l.i l.out
