use Rattle.common.proofs.Words.{arith, length, ◌+◌, le-leb}
use Rattle.answers.proofs.Writing.{written_part}
use Rattle.text.proofs.put_part.Goals as goal

pub returns-then-part-out : goal.returns-then-part-out
returns-then-part-out c =
    let a = c.args in
    let fits = le-leb (a.at + length a.part.now) (length a.out.now) (omega arith) in
    rw (fits, c.copy_from_slice.ensures.after) (written_part a.out.now a.at _ a.part.now (omega arith) (omega arith))
