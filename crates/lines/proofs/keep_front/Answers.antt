-- One character more of the front is kept (`front_on`); those behind the front pass by, so the whole line is kept (`front_is_all`).
use Rattle.common.proofs.Words.{◌<◌, arith, length, length-take}
use Rattle.std.specs.List.{between as part}
use Rattle.lines.proofs.Going.{front_on, front_is_all, front_byte, goes_on, rest_long}
use Rattle.lines.proofs.keep_front.Goals as goal

pub loop-character-preserved : goal.loop-character-preserved
loop-character-preserved c =
    let l = c.loop-character in
    let input = c.args.input.now in
    let from = c.args.from in
    let n = c.args.size in
    let asked = c.requires in
    let bytes = part from (length input) input in
    let in_front : l.character-index < c.min.result = omega (arith, c.loop-character-test.true, length-take c.min.result bytes) in
    let in_line : l.character-index < n = omega (arith, in_front, c.min.ensures) in
    front_on l.invariant (omega (arith, in_front, c.min.ensures)) (omega (arith, in_line, asked.within, rest_long input from))
    (goes_on input from n asked.from_in_bounds asked.within asked.none_before l.character-index in_line)
    (rw (front_byte input from n asked.from_in_bounds asked.within asked.none_before c.min.result l.character-index in_front) at c.keep.ensures)

pub returns : goal.returns
returns c =
    let input = c.args.input.now in
    let asked = c.requires in
    let bytes = part c.args.from (length input) input in
    front_is_all input c.args.from c.args.size asked.from_in_bounds asked.within asked.none_before c.loop-character.invariant
    (omega (arith, c.loop-character-test.false, c.loop-character.auto.character-index-end, length-take c.min.result bytes, c.min.ensures, asked.within))
    asked.ends
