-- The places passed have their estimates' volumes, and the others what they held.
use Rattle.std.proofs.Common.{◌≡◌, map, take}
use Rattle.meter.specs.Sharing.{filled_with}
use Rattle.meter.proofs.StandingPeriods.confirm.Given as goal

abbrev pub invariant-loop-i : goal.invariant-loop-i
invariant-loop-i l = l.volumes ≡ filled_with (map (λ estimate. estimate.volume) (take l.i l.self.periods.now)) l.fn.volumes
