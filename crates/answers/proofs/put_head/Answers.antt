-- Three numbers, one behind the other.
use Rattle.frames.proofs.Digits.{length_digits}
use Rattle.answers.proofs.Writing.{put_first, put_more, put_all}
use Rattle.answers.proofs.put_head.Goals as goal

pub returns : goal.returns
returns c =
    let a = c.args in
    let number = put_first a.out.now (length_digits 16 2 0) c.put_bytes.ensures in
    let both = put_more number (length_digits 16 8 a.estimated) (rw c.from.ensures at c.put_bytes-2.ensures) in
    put_all (put_more both (length_digits 16 2 a.count) c.put_bytes-3.ensures) c.requires
