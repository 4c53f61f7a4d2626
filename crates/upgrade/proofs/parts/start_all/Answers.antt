use Rattle.common.proofs.Words.{add-one}
use Rattle.upgrade.specs.Parts.{started}
use Rattle.upgrade.proofs.Places.{put_front}
use Rattle.upgrade.proofs.parts.start_all.Goals as goal

pub loop-item-preserved : goal.loop-item-preserved
loop-item-preserved c =
    let begun = put_front started c.args.items.now _ c.loop-item.item-index c.loop-item-test.true in
    rw (c.made.ensures, c.loop-item.invariant, add-one c.loop-item.item-index) begun
