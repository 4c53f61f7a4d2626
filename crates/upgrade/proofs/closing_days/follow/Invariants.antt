use Rattle.upgrade.proofs.Turning.{Turned}
use Rattle.upgrade.proofs.closing_days.follow.Given as goal

abbrev pub invariant-loop-i : goal.invariant-loop-i
invariant-loop-i l = Turned l.fn.start l.fn.estimates l.estimates l.i l.closing_day
