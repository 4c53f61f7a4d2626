use Rattle.std.proofs.Common.{refl}
use Rattle.ledger.specs.Limits.{capacity}
use Rattle.lanes.proofs.Places.{padded}
use Rattle.lanes.proofs.gathered.Goals as goal

pub returns : goal.returns
returns c = rw c.copy_from_slice.ensures.after (padded capacity c.args.items.now refl)
