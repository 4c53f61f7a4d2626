use Rattle.common.proofs.Words.{◌*◌, take}
use Rattle.answers.specs.Notices.{notice_length}
use Rattle.answers.proofs.Writing.{Put}
use Rattle.text.specs.Output.{notices_of}
use Rattle.text.proofs.put_items.Given as goal

abbrev pub invariant-loop-i : goal.invariant-loop-i
invariant-loop-i l = Put l.initial.out (notices_of (take l.i l.items)) (notice_length * l.i) l.out
