use Rattle.common.proofs.Words.{ap, ◌∙◌, arith, length, length-append}
use Rattle.std.specs.Slice.Iter.{chunks_rest}
use Rattle.text.specs.Lines.{ends_in}
use Rattle.text.proofs.Lines.{ends_on, ends_most}
use Rattle.text.proofs.count_ends.Goals as goal

pub loop-block-preserved : goal.loop-block-preserved
loop-block-preserved c =
    let block = c.in-Some.block.now in
    let rest = chunks_rest c.next.new.self in
    let steps = c.in-Some.ensures.steps in
    let counted = c.ends_in_block.ensures in
    record {
      size = steps.0 ∙ c.loop-block.invariant.size;
      few = omega (arith, ap length steps.1.0, length-append block rest, counted, ends_most block, c.from-ends.ensures);
      counted = omega (arith, ap ends_in steps.1.0, ends_on block rest, counted, c.from-ends.ensures);
    }
