-- The characters are kept up to an end (`Keeps`). Where the input ended, or the room might not hold an answer, the line waits; else what is
-- kept is read and cleared, and the line ended (`found_waits`, `found_kept`).
use Rattle.common.proofs.Words.{◌≡◌, ◌<◌, ap, arith, length, take}
use Rattle.std.specs.Prelude.{Some}
use Rattle.frames.specs.Frames.{parsed}
use Rattle.lines.specs.Going.{read_as}
use Rattle.lines.proofs.Going.{found_waits, found_kept}
use Rattle.lines.proofs.kept_line.Goals as goal
use Rattle.lines.proofs.kept_line.Goals.{in-Some, in-None}

pub returns-then-taken-input : goal.returns-then-taken-input
returns-then-taken-input c = found_waits c.keep_characters-taken.ensures c.args.room c.then-taken-input.either

pub returns : goal.returns
returns c =
    let keeps = c.keep_characters-taken.ensures in
    let kept = c.keep_characters-taken.new.line in
    let more : c.keep_characters-taken.result < length c.args.input.now = omega (arith, keeps.within) in
    let read : read_as c.match-read.next ≡ Some (parsed (take kept.length kept.characters)) = elim c.match-read.branch [
      | in-Some w ↦ rw (w.next-is) (ap Some (rw w.in-Some.is at c.read.ensures))
      | in-None w ↦ rw (w.next-is) (ap Some (rw w.in-None.is at c.read.ensures))
    ] in
    found_kept keeps c.args.room more (omega arith) read c.new.ensures
