-- Kind, obligation, due day, unpaid and LF, one behind the other.
use Rattle.std.proofs.Common.{arith}
use Rattle.calendar.specs.Conversions.{to_date}
use Rattle.answers.specs.Notices.{kind_number, notice_line}
use Rattle.frames.specs.Digits.{line_feed}
use Rattle.frames.proofs.Digits.{length_digits}
use Rattle.answers.proofs.Writing.{put_first, put_more, put_last, put_written, length_date}
use Rattle.answers.proofs.put_notice.Goals as goal

pub returns : goal.returns
unfolding notice_line
returns c =
    let item = c.args.item in
    let kind = put_first c.args.out.now (length_digits 16 2 (kind_number item.kind)) (rw c.kind_number.ensures at c.put_bytes.ensures) in
    let obligation = put_more kind (length_date (to_date item.obligation)) c.put_date.ensures in
    let due = put_more obligation (length_date (to_date item.due)) c.put_date-2.ensures in
    let unpaid = put_more due (length_digits 16 16 item.unpaid) c.put_bytes-2.ensures in
    put_written (put_last unpaid line_feed (omega arith)) (omega arith)
