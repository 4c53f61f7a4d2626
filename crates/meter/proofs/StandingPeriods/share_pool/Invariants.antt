-- The estimates that the iterator has left have no part yet. The others have theirs, and the shares of those left, of what is left,
-- complete the whole.
use Rattle.std.proofs.Common.{◌≡◌, ◌≤◌, List, ℕ, length, map}
use Rattle.std.specs.Slice.Iter.{iter_rest}
use Rattle.std.specs.Iterator.Adapters.{rev_source, enumerate_source, enumerate_count}
use Rattle.meter.specs.{Limits.most_misses, Sharing.sharing, Sharing.shared_pool, Sharing.filled_with}
use Rattle.meter.specs.{declared.Estimate.Estimate, declared.Share.Share}
use Rattle.meter.proofs.Walk.{Walked}
use Rattle.meter.proofs.StandingPeriods.share_pool.Given as goal

pub record Walking (rest : List Estimate) (whole : List ℕ) (pool : ℕ) (volumes : List ℕ) (share : Share) : Type 0 where
  pub few : length rest ≤ most_misses
  pub long : length volumes ≡ 7
  pub left_within : share.left ≤ pool
  pub walked : Walked (map sharing rest) whole share volumes

abbrev pub invariant-loop-i : goal.invariant-loop-i
invariant-loop-i l =
    let left = rev_source l.i-iterator in
    (enumerate_count left ≡ 0)
    × Walking (iter_rest (enumerate_source left)) (filled_with (shared_pool l.self.periods.now l.pool) l.fn.volumes) l.pool l.volumes l.share
