-- Head, volumes, amounts and LF, one behind the other. The volumes are those that the answer shows, by `take_pad`.
use Rattle.std.proofs.Common.{◌≡◌, ◌+◌, ◌-◌, ◌*◌, arith, length, rules, w32, to_z, of_z}
use Rattle.lists.proofs.{Joined.joined_length, Pad.take_pad}
use Rattle.account.specs.Outcomes.{acceptance}
use Rattle.frames.specs.Digits.{bytes, line_feed}
use Rattle.frames.proofs.Digits.{length_digits}
use Rattle.answers.specs.Answers.{answer_line}
use Rattle.answers.proofs.Writing.{put_first, put_part, put_last, put_written, length_head, length_amounts}
use Rattle.answers.proofs.put_accepted.Goals as goal

pub returns : goal.returns
unfolding answer_line
returns c =
    let a = c.args in
    let answer = acceptance a.estimated a.volumes.now a.net a.interest a.unpaid a.credit in
    let same : to_z w32 (of_z w32 a.net) ≡ a.net = search rules in
    let place = 12 + 8 * length a.volumes.now in
    let size : place - 12 ≡ 8 * length a.volumes.now = omega arith in
    let last : place + 48 - place ≡ 48 = omega arith in
    let head = put_first a.out.now (length_head answer) c.put_head.ensures in
    let volumes = put_part head (joined_length (bytes 4) 8 (length_digits 16 8) a.volumes.now) c.put_volumes.ensures size in
    let amounts = put_part volumes (length_amounts answer) (rw same at c.put_amounts.ensures) last in
    let line = put_last amounts line_feed (omega arith) in
    rw (take_pad 0 7 a.volumes.now)
    (record { out_after = put_written line (omega arith); value = omega (arith, line.long); upper_bound = omega arith })
