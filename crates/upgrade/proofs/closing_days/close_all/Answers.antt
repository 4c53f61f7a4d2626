use Rattle.common.proofs.Words.{add-one}
use Rattle.upgrade.specs.ClosingDays.{closed_on}
use Rattle.upgrade.proofs.Places.{put_front}
use Rattle.upgrade.proofs.closing_days.close_all.Goals as goal

pub loop-estimate-preserved : goal.loop-estimate-preserved
loop-estimate-preserved c =
    let turned = put_front (closed_on c.args.day) c.args.estimates.now _ c.loop-estimate.estimate-index c.loop-estimate-test.true in
    rw (c.loop-estimate.invariant, add-one c.loop-estimate.estimate-index) turned
