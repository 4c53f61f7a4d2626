-- A whole account lends a head and estimates within their bounds (`Ready`).
use Rattle.account.proofs.Ready.{head_bounds, misses_most, estimates_within}
use Rattle.account.proofs.whole.WholeAccount.billing.Goals as goal

pub standing-requires : goal.standing-requires
standing-requires c = misses_most c.args.self.now.account c.args.self.now.is_whole

pub invariant_of-result : goal.invariant_of-result
invariant_of-result c =
    let a = c.args.self.now.account in
    let w = c.args.self.now.is_whole in
    record {
      head_bounds = rw c.from.ensures (head_bounds a w);
      standing_bounds = record { few = c.standing.result.few; within = rw c.standing.ensures (estimates_within a w) };
    }
