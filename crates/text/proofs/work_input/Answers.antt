-- Each piece's output goes behind what stands in `out`, where it fits there; where all of the output does, each piece's does.
-- One piece is `working_on`, the end of the input `working_end`.
use Rattle.common.proofs.Words.{◌≡◌, refl, ap, ◌∙◌, List, ℕ, ◌+◌, ◌-◌, ◌≤◌, arith, length, take, drop, length-drop}
use Rattle.common.proofs.Words.{take_all}
use Rattle.frames.specs.Digits.{written}
use Rattle.answers.specs.Answers.{longest_answer}
use Rattle.lines.specs.Feeding.{Feeding, feeding, finishing, fed_of}
use Rattle.lines.specs.declared.Fed.{Fed}
use Rattle.lines.proofs.Feeding.{taken_some}
use Rattle.text.proofs.Working.{Lent, space_same, front_put, working_start, working_on, working_end, Worked}
use Rattle.text.proofs.Pieces.{behind_ready}
use Rattle.text.proofs.work_input.Goals as goal
use Rattle.text.proofs.work_input.Goals.{After-feed-fed, After-finish-last}

-- A piece is fed.
module _ (c : After-feed-fed) where
  abbrev ahead : List ℕ
  ahead = drop c.loop-taken.taken c.args.input.now

  abbrev fed : Feeding
  fed = feeding c.args.holidays.now (length c.loop-taken.space) c.loop-taken.state ahead

  -- what is fed is all that is ahead
  all : take (length c.args.input.now - c.loop-taken.taken) ahead ≡ ahead
  all =
      take_all (length c.args.input.now - c.loop-taken.taken) ahead (omega (arith, length-drop c.loop-taken.taken c.args.input.now))

  made : Lent c.feed-fed.result c.loop-taken.space c.feed-fed.new.out fed
  made =
      let same = ap (feeding c.args.holidays.now (length c.loop-taken.space) c.loop-taken.state) all in
      record {
        result_is = c.feed-fed.ensures.value ∙ ap fed_of same;
        space_is = c.feed-fed.ensures.out_after ∙ ap (λ (f : Feeding). written c.loop-taken.space 0 f.output) same;
        most = c.feed-fed.ensures.taken_in_bounds.1;
      }

  taken_more : 1 ≤ c.feed-fed.result.taken
  taken_more =
      let enough : longest_answer ≤ length c.loop-taken.space = omega (arith, c.loop-taken.invariant.space_long) in
      let some =
      taken_some c.args.holidays.now (length c.loop-taken.space) c.loop-taken.state ahead enough
      (omega (arith, length-drop c.loop-taken.taken c.args.input.now, c.loop-taken-test.true))
      in
      rw (ap (λ (f : Fed). f.taken) made.result_is) some

  taken_most : c.loop-taken.taken + c.feed-fed.result.taken ≤ length c.args.input.now
  taken_most = omega (arith, length-drop c.loop-taken.taken c.args.input.now, c.feed-fed.ensures.taken_in_bounds.0, c.loop-taken-test.true)

-- The end is made.
module _ (c : After-finish-last) where
  abbrev last : Feeding
  last = finishing c.args.holidays.now (length c.loop-taken.space) c.loop-taken.state

  ended : Lent c.finish-last.result c.loop-taken.space c.finish-last.new.out last
  ended =
      record {
        result_is = c.finish-last.ensures.value;
        space_is = c.finish-last.ensures.out_after;
        most = c.finish-last.ensures.written_in_bounds;
      }

  enough : longest_answer ≤ length c.loop-taken.space
  enough = omega (arith, c.loop-taken.invariant.space_long)

  worked : {out : List ℕ} → (c.loop-taken.size + length last.output ≤ length c.loop-taken.out → out ≡ written c.loop-taken.out c.loop-taken.size last.output)
      → Worked c.args.holidays.now c.args.input.now c.args.out.now out last.state.account (c.loop-taken.size + length last.output)
  worked =
      working_end c.loop-taken.invariant.working (length c.loop-taken.space) c.loop-taken.invariant.out_long enough c.loop-taken-test.false

pub loop-taken-init : goal.loop-taken-init
loop-taken-init c =
    record {
      within = omega arith;
      out_long = refl;
      space_long = refl;
      size_most = omega arith;
      working = rw c.new-state.ensures (working_start c.args.holidays.now c.args.input.now c.args.out.now);
    }

pub feed-fed-requires : goal.feed-fed-requires
feed-fed-requires c =
    behind_ready (record { seen = take c.loop-taken.taken c.args.input.now; follows = c.loop-taken.invariant.working.stands })

pub loop-taken-smaller : goal.loop-taken-smaller
loop-taken-smaller c =
    let f = (goal.at.loop-taken-smaller c).After-feed-fed in
    omega (arith, taken_most f, taken_more f)

pub loop-taken-preserved : goal.loop-taken-preserved
loop-taken-preserved c =
    let f = (goal.at.loop-taken-preserved c).After-feed-fed in
    let i = c.loop-taken.invariant in
    let put = front_put (made f) c.loop-taken.out c.loop-taken.size c.put_part.ensures in
    record {
      within = taken_most f;
      out_long = c.put_part.auto.out ∙ i.out_long;
      space_long = space_same (made f) ∙ i.space_long;
      size_most = omega (arith, (made f).most, taken_more f, i.space_long, i.size_most);
      working = rw (made f).result_is (working_on i.working (length c.loop-taken.space) i.out_long put);
    }

pub finish-last-requires : goal.finish-last-requires
finish-last-requires c =
    behind_ready (record { seen = take c.loop-taken.taken c.args.input.now; follows = c.loop-taken.invariant.working.stands })

pub returns-clause-value : goal.returns-clause-value
returns-clause-value c =
    let f = (goal.at.returns-clause-value c).After-finish-last in
    let w = worked f (front_put (ended f) c.loop-taken.out c.loop-taken.size c.put_part-2.ensures) in
    rw ((ended f).result_is, w.account_is, w.size_is)

pub returns-clause-out_after : goal.returns-clause-out_after
returns-clause-out_after c =
    let f = (goal.at.returns-clause-out_after c).After-finish-last in
    (worked f (front_put (ended f) c.loop-taken.out c.loop-taken.size c.put_part-2.ensures)).out_is
