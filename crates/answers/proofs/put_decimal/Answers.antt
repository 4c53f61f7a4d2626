use Rattle.std.proofs.Common.{◌≡◌, ◌+◌, ◌-◌, ◌%◌, ◌<◌, sym, ◌∙◌, length, arith}
use Rattle.frames.specs.Digits.{digits}
use Rattle.answers.proofs.Writing.{digits_next, decimal_glyph}
use Rattle.answers.proofs.put_decimal.Goals as goal

pub loop-i-preserved : goal.loop-i-preserved
loop-i-preserved g c =
    let l = c.loop-i in
    let here : l.i - 1 + 1 ≡ l.i = omega arith in
    let within : l.i - 1 < length l.out = omega arith in
    l.invariant ∙ rw (here, decimal_glyph (l.rest % 10) (omega arith)) at (digits_next 10 (l.i - 1) l.rest l.out within)

pub returns : goal.returns
unfolding digits
returns g c = let done : c.loop-i.i ≡ 0 = omega arith in sym (rw done at c.loop-i.invariant)
