use Rattle.std.proofs.Common.{◌≡◌, ◌+◌, ◌-◌, ◌*◌, ◌%◌, ◌<◌, sym, ◌∙◌, length, arith, rules}
use Rattle.frames.specs.Digits.{digits}
use Rattle.answers.proofs.{Writing.digits_zero, Writing.bytes_next, Table.pair}
use Rattle.answers.proofs.put_bytes.Goals as goal

pub returns-then-value-eq0 : goal.returns-then-value-eq0
returns-then-value-eq0 g c =
    rw (c.if-value-eq0.true, digits_zero 16 (2 * g.row.BYTES), ← c.requires) (c.fill.ensures.after (λ y h. search rules))

pub loop-i-preserved : goal.loop-i-preserved
loop-i-preserved g c =
    let l = c.loop-i in
    let shown = pair (l.rest % 256) (omega arith) in
    let here : l.i - 1 + 1 ≡ l.i = omega arith in
    let within : 2 * (l.i - 1) + 1 < length l.out = omega arith in
    rw (shown.high, shown.low) (l.invariant ∙ rw here at (bytes_next (l.i - 1) l.rest l.out within))

pub returns : goal.returns
unfolding digits
returns g c = let done : c.loop-i.i ≡ 0 = omega arith in sym (rw done at c.loop-i.invariant)
