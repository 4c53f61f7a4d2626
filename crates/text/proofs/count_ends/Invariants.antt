-- What was counted, with the line ends of the blocks to come, is what is counted of all.
use Rattle.common.proofs.Words.{◌≡◌, ◌+◌, ◌≤◌, length}
use Rattle.std.specs.Slice.Iter.{chunks_rest, chunks_size}
use Rattle.text.specs.Lines.{ends_in}
use Rattle.text.proofs.count_ends.Given as goal

abbrev pub invariant-loop-block : goal.invariant-loop-block
invariant-loop-block l =
    let rest = chunks_rest l.block-iterator in
    record {
      size : chunks_size l.block-iterator ≡ 240;
      few : l.ends + length rest ≤ length l.input;
      counted : l.ends + ends_in rest ≡ ends_in l.input;
    }
