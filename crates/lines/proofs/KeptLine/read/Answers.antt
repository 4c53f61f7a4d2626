-- What is kept is read with LF behind it: the frame that begins there is the line's where it has all its characters, and nothing else is.
use Rattle.lines.proofs.Going.{kept_many, kept_no_frame, kept_read}
use Rattle.lines.proofs.KeptLine.read.Goals as goal

pub returns-then-self-ge-KEPT_MOST : goal.returns-then-self-ge-KEPT_MOST
returns-then-self-ge-KEPT_MOST c = rw (← c.self.view_is) (kept_many _ _ c.self.told c.if-self-ge-KEPT_MOST.true)

pub returns-in_err-frame : goal.returns-in_err-frame
returns-in_err-frame c =
    rw (c.from_residual.ensures, ← c.self.view_is) (kept_no_frame _ _ c.self.told c.if-self-ge-KEPT_MOST.false c.in_err-frame.ensures)

pub returns : goal.returns
returns c =
    rw (c.then_some.ensures, ← c.self.view_is) (kept_read _ _ c.self.told c.if-self-ge-KEPT_MOST.false _ c.in_ok-frame.ensures)
