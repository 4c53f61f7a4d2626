-- What is found where a line lies is its frame, and there is room for an answer (`found_frame`).
use Rattle.common.proofs.Words.{arith}
use Rattle.lines.proofs.Going.{found_frame}
use Rattle.lines.proofs.next_line.Goals as goal

pub returns-in-Some : goal.returns-in-Some
returns-in-Some c = found_frame (c.is_begun.ensures.none (cc)) c.in-Some.ensures (omega arith)
