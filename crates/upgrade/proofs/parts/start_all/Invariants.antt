-- The items passed have started, and the others are as they were.
use Rattle.std.proofs.Common.{◌≡◌, ◌++◌, map, take, drop}
use Rattle.upgrade.specs.Parts.{started}
use Rattle.upgrade.proofs.parts.start_all.Given as goal

abbrev pub invariant-loop-item : goal.invariant-loop-item
invariant-loop-item l =
    let items = l.fn.items in
    l.item-items ≡ take l.item-index (map started items) ++ drop l.item-index items
