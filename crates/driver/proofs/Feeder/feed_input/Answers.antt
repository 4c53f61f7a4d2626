-- A block more is what was read with that block behind it; at the reader's end that is all that it had.
use Rattle.std.proofs.Common.{refl, IfSome, List, ℕ, [], rules, take}
use Rattle.std.proofs.lemmas.Result.{IfOk-weaker, on_ok_weaker}
use Rattle.std.specs.Io.KnownBytes.{Appends, Consumes}
use Rattle.text.specs.{Pieces.AtEnd, Output.bill}
use Rattle.driver.specs.Runs.{printed}
use Rattle.driver.proofs.Runs.{reaches_start, behind_of, reaches_on, all_seen, prints_on, prints_all}
use Rattle.driver.proofs.Feeder.feed_input.Given as given
use Rattle.driver.proofs.Feeder.feed_input.Goals as goal
use Rattle.driver.proofs.Feeder.feed_input.Goals.{After-end_input}

pub loop-init : goal.loop-init
loop-init g c = record { same = refl; reaches = rw c.new-state.ensures (reaches_start _ _ _) }

pub feed_block-requires : goal.feed_block-requires
feed_block-requires g c = rw c.loop.invariant.same (behind_of c.loop.invariant.reaches)

pub end_input-requires : goal.end_input-requires
end_input-requires g c = rw c.loop.invariant.same (behind_of c.loop.invariant.reaches)

pub loop-preserved : goal.loop-preserved
loop-preserved g c =
    let r = c.loop.invariant.reaches in
    let same = c.loop.invariant.same in
    let fed = c.in_ok-state.ensures in
    record {
      same = search rules;
      reaches = reaches_on r (take c.in-Ok.count c.read.new.buf) c.in-Ok.ensures.bytes.0
          ((rw same at fed.follows) (behind_of r)) ((rw same at fed.prints) (behind_of r));
    }

-- Nothing more was read: what holds of all that was seen holds of all that the reader had.
module _ (g : given.Over) (c : After-end_input g) where
  whole : (P : List ℕ → Type 0) → P c.loop.invariant.reaches.seen → IfSome (g.R.Read.remaining c.args.input.now) P
  whole P p =
      let none : Consumes (g.R.Read.remaining c.loop.input) (g.R.Read.remaining c.read.new.self) [] =
      rw c.if-count-eq0.true at c.in-Ok.ensures.bytes.0 in
      all_seen c.loop.invariant.reaches P (g.R.Read.remaining c.read.new.self) none (c.in-Ok.ensures.bytes.1 c.if-count-eq0.true (search rules)) p

pub returns-then-count-eq0-clause-finished : goal.returns-then-count-eq0-clause-finished
returns-then-count-eq0-clause-finished g c =
    IfOk-weaker c.end_input.result _ _ (λ s p. record { input = c.loop.invariant.reaches.seen; at_end = p (behind_of c.loop.invariant.reaches) })
    (rw c.loop.invariant.same at c.end_input.ensures.at_end)

pub returns-then-count-eq0-clause-at_end : goal.returns-then-count-eq0-clause-at_end
returns-then-count-eq0-clause-at_end g c =
    IfOk-weaker c.end_input.result _ _
    (λ s p. whole g c (λ bytes. AtEnd c.args.self.now.holidays.now bytes s) (p (behind_of c.loop.invariant.reaches)))
    (rw c.loop.invariant.same at c.end_input.ensures.at_end)

pub returns-then-count-eq0-clause-billed : goal.returns-then-count-eq0-clause-billed
returns-then-count-eq0-clause-billed g c =
    on_ok_weaker c.end_input.result
    (λ p.
    whole g c
    (λ bytes.
    Appends (g.W.Write.contents c.args.self.now.output.now) (g.W.Write.contents c.end_input.new.self.output.now)
    (printed c.args.self.now.is_printing (bill c.args.self.now.holidays.now bytes)))
    (prints_all (prints_on c.loop.invariant.reaches.prints (p (behind_of c.loop.invariant.reaches)))))
    (rw c.loop.invariant.same at c.end_input.ensures.prints)
