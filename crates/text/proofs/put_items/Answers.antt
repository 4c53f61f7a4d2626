use Rattle.common.proofs.Words.{arith, get_or}
use Rattle.ledger.specs.Posting.{blank}
use Rattle.answers.specs.Notices.{notice_line, notice_length}
use Rattle.answers.proofs.Writing.{put_front, put_next, length_notice}
use Rattle.text.proofs.put_items.Goals as goal

pub loop-i-preserved : goal.loop-i-preserved
loop-i-preserved c =
    let put = c.loop-i.invariant in
    let item = length_notice (get_or c.args.items.now c.loop-i.i blank) in
    let line = put_front put item (omega (arith, c.requires, c.loop-i-test.true)) (omega arith) c.put_notice.ensures in
    put_next notice_line notice_length length_notice c.args.items.now c.loop-i.i blank c.loop-i-test.true put line (omega arith)
