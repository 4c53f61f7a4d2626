-- What was gathered is the test over the days passed.
use Rattle.std.proofs.Common.{◌≡◌, take}
use Rattle.duedays.specs.DueDays.{rising}
use Rattle.duedays.proofs.is_rising.Given as goal

abbrev pub invariant-loop-i : goal.invariant-loop-i
invariant-loop-i l = l.rises ≡ rising (take l.i l.holidays)
