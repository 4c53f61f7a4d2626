-- Where no line has begun nothing is made; else the line's end is fed.
use Rattle.common.proofs.Words.{◌≡◌, ap, length, refl}
use Rattle.lines.specs.Begun.{Begun}
use Rattle.lines.proofs.Feeding.{finish_none, finish_line}
use Rattle.feeding.proofs.finish.Goals as goal
use Rattle.feeding.proofs.finish.Goals.{Then-not-is_begun, After-feed}

none : (c : Then-not-is_begun) → c.args.state.line.length ≡ 0
none c = ap (λ (b : Begun). b.length) (c.is_begun.ensures.none c.if-not-is_begun.true)

begun : (c : After-feed) → c.args.state.line.length ≡ 0 → ⊥
begun c z = absurd (let is = rw z at c.is_begun.ensures.value in cc)

pub returns-then-not-is_begun-clause-value : goal.returns-then-not-is_begun-clause-value
returns-then-not-is_begun-clause-value c =
    rw (finish_none c.args.holidays.now (length c.args.out.now) c.args.state (none c)) refl

pub returns-then-not-is_begun-clause-out_after : goal.returns-then-not-is_begun-clause-out_after
returns-then-not-is_begun-clause-out_after c =
    rw (finish_none c.args.holidays.now (length c.args.out.now) c.args.state (none c)) refl

pub returns-clause-value : goal.returns-clause-value
returns-clause-value c =
    rw (finish_line c.args.holidays.now (length c.args.out.now) c.args.state (begun (goal.at.returns-clause-value c).After-feed)) c.feed.ensures.value

pub returns-clause-out_after : goal.returns-clause-out_after
returns-clause-out_after c =
    rw (finish_line c.args.holidays.now (length c.args.out.now) c.args.state (begun (goal.at.returns-clause-out_after c).After-feed)) c.feed.ensures.out_after
