-- The bytes that are left of what remains, and behind them those that are put, are those of the number.
use Rattle.std.proofs.Common.{◌≡◌, ◌*◌, ◌++◌, drop}
use Rattle.frames.specs.Digits.{bytes}
use Rattle.answers.proofs.put_bytes.Given as goal

abbrev pub invariant-loop-i : goal.invariant-loop-i
invariant-loop-i g l = bytes g.row.BYTES l.fn.value ≡ bytes l.i l.rest ++ drop (2 * l.i) l.out
