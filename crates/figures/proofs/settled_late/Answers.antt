use Rattle.common.proofs.Words.{le_refl}
use Rattle.ledger.proofs.Interest.{made_bounds}
use Rattle.figures.proofs.settled_late.Goals as goal

pub interest_on-requires-clause-bounds : goal.interest_on-requires-clause-bounds
interest_on-requires-clause-bounds c =
    rw c.made-item.ensures (made_bounds _ _ _ c.args.amount c.args.amount c.requires.some (le_refl c.args.amount) c.requires.amount)
