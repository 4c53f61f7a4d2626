-- There is room for a line, so feeding the rest of the block takes some of it (`taken_some`), and the state follows the block up to the
-- place behind (`follows_on`). What that makes lies in the space from the front, and is printed.
use Rattle.std.proofs.Common.{◌≡◌, refl, ◌≤◌, ℕ, ◌+◌, ◌-◌, sym, ap, subst, ◌∙◌, arith, List, ◌++◌, append_assoc, append-nil, length, take, drop}
use Rattle.std.proofs.Common.{length-drop, take-add, take_all, rules}
use Rattle.std.specs.Io.KnownBytes.{Appends}
use Rattle.lines.specs.{declared.Fed.Fed, Feeding.Feeding, Feeding.feeding, Feeding.fed_of}
use Rattle.lines.proofs.Feeding.{taken_some}
use Rattle.text.specs.Pieces.{Follows, Behind, made}
use Rattle.text.proofs.{Pieces.follows_on, Pieces.behind_ready}
use Rattle.driver.specs.Runs.{printed, Prints}
use Rattle.driver.proofs.Runs.{front_is, prints_none, prints_on, piece_prints}
use Rattle.driver.proofs.Feeder.feed_block.Given as given
use Rattle.driver.proofs.Feeder.feed_block.Goals as goal

-- What was seen goes on by what is taken of the rest of a block.
seen_on : (seen block : List ℕ) (at n : ℕ) {rest : List ℕ} → rest ≡ drop at block
    → (seen ++ take at block) ++ take n rest ≡ seen ++ take (at + n) block
seen_on seen block at n e = rw (e, append_assoc, take-add at n block)

module _ (g : given.Over) (c : goal.In_ok-print g) where
  abbrev holidays : List ℕ
  holidays = c.args.self.now.holidays.now

  abbrev at : ℕ
  at = c.loop-at.at

  abbrev block : List ℕ
  block = c.args.block.now

  abbrev room : ℕ
  room = length c.loop-at.out

  abbrev rest : List ℕ
  rest = take (length block - at) (drop at block)

  rest_is : rest ≡ drop at block
  rest_is = take_all (length block - at) (drop at block) (omega (arith, length-drop at block))

  rest_long : length rest ≡ length block - at
  rest_long = ap length rest_is ∙ length-drop at block

  abbrev fed : Feeding
  fed = feeding holidays room c.loop-at.state rest

  fed_is : c.feed-fed.result ≡ fed_of fed
  fed_is = rw c.loop-at.invariant.same at c.feed-fed.ensures.value

  onward : at + c.feed-fed.result.taken ≤ length block
  onward = omega (arith, c.loop-at.invariant.within, rest_long, c.feed-fed.ensures.taken_in_bounds.0)

  some : 1 ≤ c.feed-fed.result.taken
  some =
      rw (ap (λ (f : Fed). f.taken) fed_is)
      (taken_some holidays room c.loop-at.state rest (omega (arith, c.loop-at.invariant.out_long))
      (omega (arith, rest_long, c.loop-at-test.true)))

  follows : (b : Behind holidays c.args.state)
      → Follows holidays (b.seen ++ take (at + c.feed-fed.result.taken) block) c.feed-fed.result.state
  follows b =
      let next = follows_on holidays (b.seen ++ take at block) c.loop-at.state room rest (c.loop-at.invariant.follows b) in
      subst (λ (f : Fed). Follows holidays (b.seen ++ take (at + f.taken) block) f.state) (sym fed_is)
      (rw (← seen_on b.seen block at fed.taken rest_is) next)

  shown : Appends (g.W.Write.contents c.loop-at.self.output.now) (g.W.Write.contents c.print.new.self.output.now)
      (printed c.args.self.now.is_printing fed.output)
  shown =
      let laid = rw c.loop-at.invariant.same at c.feed-fed.ensures.out_after in
      let text : take c.feed-fed.result.written c.feed-fed.new.out ≡ fed.output =
      front_is (record { result_is = fed_is; space_is = laid; most = c.feed-fed.ensures.taken_in_bounds.1 }) in
      rw (← text) (rw c.loop-at.invariant.same at c.in_ok-print.ensures.printed)

  prints : (b : Behind holidays c.args.state)
      → Prints c.args.self.now.is_printing (made holidays (b.seen ++ take at block))
      (made holidays (b.seen ++ take (at + c.feed-fed.result.taken) block))
      (g.W.Write.contents c.loop-at.self.output.now) (g.W.Write.contents c.print.new.self.output.now)
  prints b =
      subst
      (λ (f : Fed).
      Prints c.args.self.now.is_printing (made holidays (b.seen ++ take at block)) (made holidays (b.seen ++ take (at + f.taken) block))
      (g.W.Write.contents c.loop-at.self.output.now) (g.W.Write.contents c.print.new.self.output.now))
      (sym fed_is)
      (rw (← seen_on b.seen block at fed.taken rest_is) (piece_prints (c.loop-at.invariant.follows b) room rest shown))

pub loop-at-init : goal.loop-at-init
loop-at-init g c =
    record {
      within = omega arith;
      out_long = search rules;
      same = refl;
      ready = behind_ready c.requires;
      follows = λ b. rw (append-nil b.seen) b.follows;
      prints = λ b. rw (append-nil b.seen) (prints_none _ _);
    }

pub loop-at-smaller : goal.loop-at-smaller
loop-at-smaller g c = omega (arith, onward g c, some g c)

pub loop-at-preserved : goal.loop-at-preserved
loop-at-preserved g c =
    record {
      within = onward g c;
      out_long = search rules;
      same = search rules;
      ready = rw c.loop-at.invariant.same at c.feed-fed.ensures.ready;
      follows = follows g c;
      prints = λ b. prints_on (c.loop-at.invariant.prints b) (prints g c b);
    }
