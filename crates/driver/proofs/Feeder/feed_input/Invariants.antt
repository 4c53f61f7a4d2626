-- The state follows what was read so far, and what that makes is printed. In all but its output the feeder is as it was.
use Rattle.std.proofs.Common.{◌≡◌}
use Rattle.driver.specs.Runs.{with_output}
use Rattle.driver.proofs.Runs.{Reaches}
use Rattle.driver.proofs.Feeder.feed_input.Given as goal

abbrev pub invariant-loop : goal.invariant-loop
invariant-loop g l =
    let begun = l.initial.self in
    record {
      same : l.self ≡ with_output begun l.self.output.now;
      reaches : Reaches begun.holidays.now begun.is_printing (g.R.Read.remaining l.initial.input) (g.R.Read.remaining l.input)
          (g.W.Write.contents begun.output.now) (g.W.Write.contents l.self.output.now) l.state;
    }
