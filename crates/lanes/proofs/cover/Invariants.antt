-- The items passed are covered.
use Rattle.std.proofs.Common.{◌≡◌}
use Rattle.lanes.proofs.Covered.{Covered}
use Rattle.lanes.proofs.cover.Given as goal

abbrev pub invariant-loop-item : goal.invariant-loop-item
invariant-loop-item l =
    record { passed : l.cover.covered ≡ l.item-index; covered : Covered l.items l.day l.money l.cover.left l.cover.arisen l.item-index }
