use Rattle.common.proofs.Words.{arith}
use Rattle.frames.specs.Digits.{bytes}
use Rattle.frames.proofs.Digits.{length_digits}
use Rattle.answers.proofs.Writing.{put_next}
use Rattle.answers.proofs.put_volumes.Goals as goal

pub loop-i-preserved : goal.loop-i-preserved
loop-i-preserved c =
    put_next (bytes 4) 8 (length_digits 16 8) c.args.volumes.now c.loop-i.i 0 c.loop-i-test.true c.loop-i.invariant
    (rw c.from.ensures at c.put_bytes.ensures) (omega arith)
