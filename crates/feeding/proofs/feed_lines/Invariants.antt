-- Line by line: what the whole piece makes is what was written, with what the rest makes of the state that lies on the desk (`Running`).
use Rattle.common.proofs.Words.{length, ◌-◌}
use Rattle.feeding.specs.Working.{state_on}
use Rattle.feeding.proofs.Running.{went_to, desk_of, Running}
use Rattle.feeding.proofs.feed_lines.Given as goal

abbrev pub invariant-loop-taken : goal.invariant-loop-taken
invariant-loop-taken l =
    Running l.holidays.days.now l.input l.fn.out (state_on l.fn.desk)
    (desk_of l.head l.desk.estimates l.desk.items l.desk.line) l.out (went_to l.taken l.written)

abbrev pub decreases-loop-taken : goal.decreases-loop-taken
decreases-loop-taken l = length l.input - l.taken
