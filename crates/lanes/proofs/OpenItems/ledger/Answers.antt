use Rattle.ledger.proofs.Queues.{gathered_is}
use Rattle.lanes.proofs.Places.{between}
use Rattle.lanes.proofs.OpenItems.ledger.Goals as goal

pub returns : goal.returns
returns c =
    let q = c.self.inside.queue in
    let count = between q.front q.count in
    let gathered = gathered_is c.self.invariant.lies c.self.invariant.few in
    cc
