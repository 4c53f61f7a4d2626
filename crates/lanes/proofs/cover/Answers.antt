use Rattle.std.proofs.Common.{arith}
use Rattle.common.proofs.Words.{add-one}
use Rattle.ledger.proofs.Cover.{covering_all, covering_short}
use Rattle.lanes.proofs.Covered.{covered_on}
use Rattle.lanes.proofs.cover.Goals as goal

pub overflow_add-cover : goal.overflow_add-cover
overflow_add-cover c =
    let next = covered_on c.requires c.loop-item.item-index c.loop-item-test.true c.loop-item.invariant.covered (omega arith) in
    rw c.interest_on.ensures (record { fits = omega (arith, next.interest) })

pub loop-item-preserved : goal.loop-item-preserved
loop-item-preserved c =
    let next = covered_on c.requires c.loop-item.item-index c.loop-item-test.true c.loop-item.invariant.covered (omega arith) in
    record { passed = omega arith; covered = rw (add-one c.loop-item.item-index, c.interest_on.ensures) next }

pub returns-after-loop-item : goal.returns-after-loop-item
returns-after-loop-item c =
    rw c.loop-item.invariant.passed (covering_all c.loop-item.invariant.covered.covering (omega arith))

pub returns-then-cover-item : goal.returns-then-cover-item
returns-then-cover-item c =
    rw c.loop-item.invariant.passed
    (covering_short c.loop-item.invariant.covered.covering c.loop-item-test.true (omega arith))
