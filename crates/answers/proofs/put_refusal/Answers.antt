-- The number, and zeros behind it.
use Rattle.std.proofs.Common.{refl, arith, rules, length-take, length-drop, length-append}
use Rattle.frames.specs.Digits.{digits, line_feed}
use Rattle.frames.proofs.Digits.{length_digits}
use Rattle.answers.specs.Answers.{answer_line}
use Rattle.answers.proofs.Writing.{put_first, put_run, put_last, put_written}
use Rattle.answers.proofs.put_refusal.Goals as goal

pub returns : goal.returns
unfolding answer_line digits
returns c =
    let a = c.args in
    let number = put_first a.out.now (length_digits 16 2 a.number) (rw c.from.ensures at c.put_bytes.ensures) in
    let zeros = put_run number 58 48 (c.fill.ensures.after (λ y h. search rules)) (simp (length-take, length-drop, length-append) (omega arith)) in
    let line = put_last zeros line_feed (omega arith) in
    record { out_after = put_written line (omega arith); value = refl; upper_bound = omega arith }
