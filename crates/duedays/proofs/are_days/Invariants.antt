-- What was gathered is the test over the days passed.
use Rattle.std.proofs.Common.{◌≡◌, leb, take}
use Rattle.lists.specs.Every.{every}
use Rattle.duedays.specs.Limits.{last_due_day}
use Rattle.duedays.proofs.are_days.Given as goal

abbrev pub invariant-loop-day : goal.invariant-loop-day
invariant-loop-day l = l.days ≡ every (λ day. leb day last_due_day) (take l.day-index l.holidays)
