use Rattle.std.proofs.Common.{◌≡◌, arith, sym, ap}
use Rattle.ledger.specs.Settling.{unpaid_of}
use Rattle.ledger.specs.Posting.{Standing, standing}
use Rattle.ledger.specs.Numbers.{lying, queue_in}
use Rattle.ledger.proofs.Queues.{spread_stands}
use Rattle.lanes.proofs.OpenItems.of.Goals as goal

stands : (c : goal.After-queue) → lying c.spread.new.places (queue_in c.args.ledger.now) ≡ standing c.args.ledger.now
stands c = spread_stands (record { count_most = c.requires.count_most; front = c.spread.ensures.front })

pub invariant_of-result : goal.invariant_of-result
invariant_of-result c =
    let most = c.requires.count_most in
    rw c.queue.ensures
    (record {
      lies = record { long = c.spread.ensures.long; end_most = omega (arith, most); owed_is = ap (λ s. unpaid_of (Standing.open_items s)) (sym (stands c)) };
      few = most;
      room = omega (arith, most);
    })

pub returns : goal.returns
returns c = rw c.queue.ensures (stands c)
