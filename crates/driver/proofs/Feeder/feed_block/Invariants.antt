-- The state follows what was seen before the block with the block up to `at`, and what that makes is printed. In all but its output the
-- feeder is as it was.
use Rattle.std.proofs.Common.{◌≡◌, ◌++◌, ◌-◌, ◌≤◌, take, length}
use Rattle.text.specs.Pieces.{Follows, Behind, made}
use Rattle.feeding.specs.Reached.{Ready}
use Rattle.driver.specs.Runs.{Prints, with_output}
use Rattle.driver.proofs.Feeder.feed_block.Given as goal

abbrev pub invariant-loop-at : goal.invariant-loop-at
invariant-loop-at g l =
    let holidays = l.initial.self.holidays.now in
    record {
      within : l.at ≤ length l.block;
      out_long : length l.out ≡ 65536;
      same : l.self ≡ with_output l.initial.self l.self.output.now;
      ready : Ready holidays l.state;
      follows : (b : Behind holidays l.initial.state) → Follows holidays (b.seen ++ take l.at l.block) l.state;
      prints : (b : Behind holidays l.initial.state)
          → Prints l.initial.self.is_printing (made holidays b.seen) (made holidays (b.seen ++ take l.at l.block))
          (g.W.Write.contents l.initial.self.output.now) (g.W.Write.contents l.self.output.now);
    }

abbrev pub decreases-loop-at : goal.decreases-loop-at
decreases-loop-at g l = length l.block - l.at
