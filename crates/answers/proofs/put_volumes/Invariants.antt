use Rattle.std.proofs.Common.{◌*◌, take}
use Rattle.answers.specs.Answers.{volumes_bytes}
use Rattle.answers.proofs.Writing.{Put}
use Rattle.answers.proofs.put_volumes.Given as goal

abbrev pub invariant-loop-i : goal.invariant-loop-i
invariant-loop-i l = Put l.initial.out (volumes_bytes (take l.i l.volumes)) (8 * l.i) l.out
