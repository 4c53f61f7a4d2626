-- The input is fed piece by piece: the state, the size and `out` are what the input taken so far makes (`Working`).
use Rattle.common.proofs.Words.{◌≡◌, ◌-◌, ◌*◌, ◌≤◌, length}
use Rattle.text.proofs.Working.{Working}
use Rattle.text.proofs.work_input.Given as goal

abbrev pub invariant-loop-taken : goal.invariant-loop-taken
invariant-loop-taken l =
    record {
      within : l.taken ≤ length l.input;
      out_long : length l.out ≡ length l.initial.out;
      space_long : length l.space ≡ 4096;
      size_most : l.size ≤ 4096 * l.taken;
      working : Working l.holidays l.input l.initial.out l.out l.state l.taken l.size;
    }

abbrev pub decreases-loop-taken : goal.decreases-loop-taken
decreases-loop-taken l = length l.input - l.taken
