use Rattle.common.proofs.Words.{◌≡◌, suc, ◌-◌, arith, add-one}
use Rattle.duedays.proofs.Lists.{rising_next}
use Rattle.duedays.proofs.is_rising.Goals as goal

pub loop-i-preserved : goal.loop-i-preserved
loop-i-preserved c =
    let i = c.loop-i.i in
    let is : suc (i - 1) ≡ i = omega arith in
    let next = rw is at (rising_next c.args.holidays.now (i - 1) (omega arith)) in
    rw (add-one i, next) (cc)
