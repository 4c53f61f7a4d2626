-- A line that ends where no frame lies is none (`found_other`); one that goes on to the end of the piece waits (`found_no_end`).
use Rattle.common.proofs.Words.{◌≡◌, ◌+◌, arith, length}
use Rattle.lines.proofs.Going.{rest_long, found_other, found_no_end}
use Rattle.lines.proofs.other_line.Goals as goal

pub returns-then-size-rest : goal.returns-then-size-rest
returns-then-size-rest c =
    let asked = c.requires in
    let found = c.line_length-size.ensures in
    let ends = c.if-size-rest.true in
    found_other asked.none_begun asked.room_left asked.wide asked.no_frame ends (found.ends ends) found.none_before

pub returns : goal.returns
returns c =
    let input = c.args.input.now in
    let all : c.args.from + c.line_length-size.result ≡ length input =
    omega (arith, c.requires.wide, c.line_length-size.ensures.within, c.if-size-rest.false, rest_long input c.args.from)
    in
    rw all at (found_no_end c.keep_front.ensures c.args.room (omega (arith, all)))
