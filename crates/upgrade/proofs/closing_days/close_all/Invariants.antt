-- The places passed are closed, and the others are as they were.
use Rattle.std.proofs.Common.{◌≡◌, ◌++◌, map, take, drop}
use Rattle.upgrade.specs.ClosingDays.{closed_on}
use Rattle.upgrade.proofs.closing_days.close_all.Given as goal

abbrev pub invariant-loop-estimate : goal.invariant-loop-estimate
invariant-loop-estimate l =
    let estimates = l.fn.estimates in
    l.estimate-items ≡ take l.estimate-index (map (closed_on l.fn.day) estimates) ++ drop l.estimate-index estimates
