-- The first characters are kept.
use Rattle.lines.proofs.Going.{KeptFront}
use Rattle.lines.proofs.keep_front.Given as goal

abbrev pub invariant-loop-character : goal.invariant-loop-character
invariant-loop-character l = KeptFront l.input l.fn.from l.fn.line l.character-index l.line
