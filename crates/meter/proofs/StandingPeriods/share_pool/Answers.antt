use Rattle.common.proofs.Words.{◌≡◌, ap, ◌∙◌, Bool, not, List, map, map-append, ℕ, arith, length, length-append, length-map, length-set}
use Rattle.common.proofs.Words.{[], ◌∷◌, ◌++◌, rules}
use Rattle.std.specs.Slice.Iter.{iter_rest}
use Rattle.std.specs.Iterator.Adapters.{rev_source, enumerate_source, enumerate_count}
use Rattle.meter.specs.{declared.Estimate.Estimate, Sharing.sharing, Sharing.shared_pool, Sharing.filled_with}
use Rattle.meter.proofs.Walk.{Walked, left_falls, one_left, walked_first, walked_next}
use Rattle.meter.proofs.{Sharing.sharers_at_most}
use Rattle.meter.proofs.StandingPeriods.share_pool.Invariants.{Walking}
use Rattle.meter.proofs.StandingPeriods.share_pool.Goals as goal

pub loop-i-init : goal.loop-i-init
unfolding shared_pool
loop-i-init c =
    let standing = c.args.self.periods.now in
    let left = rev_source c.into_iter-i-iterator.result in
    let none : enumerate_count left ≡ 0 = cc in
    let all : iter_rest (enumerate_source left) ≡ standing = cc in
    let long = length-map standing sharing in
    let seven : length c.args.volumes.now ≡ 7 = search rules in
    let first = walked_first (map sharing standing) c.args.pool c.args.volumes.now (omega (arith, long, seven)) in (
      none,
      record {
        few = rw all (omega arith);
        long = simp length-set seven;
        left_within = rw c.take_share-share.ensures (left_falls _ _ _);
        walked = rw (all, c.take_share-share.ensures, c.count_sharers.ensures) (rw long at first);
      },
    )

-- In a turn: the latest estimate that is left, and those before it.
module _ (c : goal.In-Some) where
  abbrev rest : List Estimate
  rest = iter_rest (enumerate_source (rev_source c.next.new.self))

  abbrev marks : List Bool
  marks = map sharing rest

  turn : (enumerate_count (rev_source c.next.new.self) ≡ 0)
      × (iter_rest (enumerate_source (rev_source c.loop-i.i-iterator)) ≡ rest ++ (c.in-Some.estimate.now ∷ [])) × (c.in-Some.i ≡ length rest)
  turn =
      let steps = rw c.in-Some.is at c.next.ensures.steps in
      (steps.0 ∙ c.loop-i.invariant.0, steps.1.0, omega (arith, steps.1.1, c.loop-i.invariant.0))

  abbrev whole : List ℕ
  whole = filled_with (shared_pool c.args.self.periods.now c.args.pool) c.args.volumes.now

  now : Walking (rest ++ (c.in-Some.estimate.now ∷ [])) whole c.args.pool c.loop-i.volumes c.loop-i.share
  now = rw turn.1 at c.loop-i.invariant.1

  walked : Walked (marks ++ (sharing c.in-Some.estimate.now ∷ [])) whole c.loop-i.share c.loop-i.volumes
  walked = rw (map-append sharing rest (c.in-Some.estimate.now ∷ [])) at now.walked

pub take_share-share-requires-in-loop-i : goal.take_share-share-requires-in-loop-i
take_share-share-requires-in-loop-i c =
    let n = now c in
    let p = c.in-Some.estimate.now in
    record {
      volume_within = omega (arith, n.left_within);
      few =
          omega (
            arith,
            (walked c).periods_left,
            sharers_at_most (marks c ++ (sharing p ∷ [])),
            length-append (marks c) (sharing p ∷ []),
            length-map (rest c) sharing,
            n.few,
            length-append (rest c) (p ∷ []),
          );
      some_left = λ present. one_left (marks c) (sharing p) (walked c) (ap not present);
    }

pub loop-i-preserved : goal.loop-i-preserved
loop-i-preserved c =
    let t : goal.In-Some = search in
    let n = now t in
    let p = c.in-Some.estimate.now in
    let fewer = length-append (rest t) (p ∷ []) in
    let marked : length (marks t) ≡ length (rest t) = length-map (rest t) sharing in
    let next = walked_next (marks t) p.absent (walked t) (omega (arith, n.few, n.long)) in (
      (turn t).0,
      record {
        few = omega (arith, n.few);
        long = rw length-set n.long;
        left_within =
            rw c.take_share-share-in-loop-i.ensures
            (omega (arith, n.left_within, left_falls p.absent c.loop-i.share.left c.loop-i.share.periods));
        walked = rw (c.take_share-share-in-loop-i.ensures, (turn t).2) (rw marked at next);
      },
    )
