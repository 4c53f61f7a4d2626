-- The digits so far: what they are read as, and no more than `cap` of their number.
use Rattle.std.proofs.Common.{◌≡◌, ◌≤◌, take}
use Rattle.frames.specs.Digits.{read_of}
use Rattle.frames.proofs.Digits.{cap}
use Rattle.frames.proofs.number.Given as goal

abbrev pub invariant-loop-digit : goal.invariant-loop-digit
invariant-loop-digit l = record { read : l.n ≡ read_of (take l.digit-index l.digits); most : l.n ≤ cap l.digit-index }
