-- A frame that begins with these two characters has this size, LF behind it, and digits in each part (`no_end`, `no_part`); and where
-- they are, it is the frame of their numbers (`numbers_begin`).
use Rattle.common.proofs.Words.{◌+◌, arith, rules}
use Rattle.frames.proofs.Numbers.{no_end, no_part, numbers_begin}
use Rattle.frames.proofs.fields_of.Goals as goal

pub returns-then-last-ne10 : goal.returns-then-last-ne10
returns-then-last-ne10 g c = no_end c.requires c.if-last-ne10.true (search rules)

pub returns-in_err-number : goal.returns-in_err-number
returns-in_err-number g c =
    rw c.from_residual.ensures
    (no_part c.requires 2 6 (omega arith) (omega arith) c.in_err-number.ensures.value)

pub returns-in_err-number-2 : goal.returns-in_err-number-2
returns-in_err-number-2 g c =
    rw c.from_residual-in_err-number-2.ensures
    (no_part c.requires 6 (6 + g.row.FIRST) (omega arith) (omega arith) c.in_err-number-2.ensures.value)

pub returns-in_err-number-3 : goal.returns-in_err-number-3
returns-in_err-number-3 g c =
    rw c.from_residual-in_err-number-3.ensures
    (no_part c.requires (6 + g.row.FIRST) (6 + g.row.FIRST + g.row.SECOND) (omega arith) (omega arith) c.in_err-number-3.ensures.value)

pub returns-in_err-number-4 : goal.returns-in_err-number-4
returns-in_err-number-4 g c =
    rw c.from_residual-in_err-number-4.ensures
    (no_part c.requires (6 + g.row.FIRST + g.row.SECOND) (6 + g.row.FIRST + g.row.SECOND + g.row.THIRD) (omega arith) (omega arith) c.in_err-number-4.ensures.value)

pub returns-in_err-number-5 : goal.returns-in_err-number-5
returns-in_err-number-5 g c =
    rw c.from_residual-in_err-number-5.ensures
    (no_part c.requires (6 + g.row.FIRST + g.row.SECOND + g.row.THIRD) (6 + g.row.FIRST + g.row.SECOND + g.row.THIRD + g.row.SHORT) (omega arith) (omega arith) c.in_err-number-5.ensures.value)

pub returns : goal.returns
returns g c =
    numbers_begin c.requires c.if-last-ne10.false (search rules) c.in_ok-number.ensures.value c.in_ok-number-2.ensures.value
    c.in_ok-number-3.ensures.value c.in_ok-number-4.ensures.value c.in_ok-number-5.ensures.value
