-- The 100,000 added are ten turns of a dial of four digits and one of a dial of five, and the remainder by the dial's own span is taken.
use Rattle.common.proofs.Words.{◌≡◌, ⊎_elim, ℕ, ◌+◌, ◌-◌, ◌*◌, ◌%◌, ◌<◌, eq-or-lt_of_le, arith, leb, leb-true, leb-false}
use Rattle.common.proofs.Cases.{by_test}
use Rattle.std.proofs.lemmas.Nat.{mod-mul-add}
use Rattle.meter.specs.Dial.{span, advance, OnDial}
use Rattle.meter.proofs.dial_advance.Goals as goal

-- With whole turns added, what the span leaves over is the advance.
module _ {digits old new : ℕ} (turns : ℕ) (w : OnDial digits old new) where
  abbrev s : ℕ
  s = span digits

  abbrev turned : ℕ
  turned = new + (turns + 1) * s - old

  whole_turns : (whole rest : ℕ) → turned ≡ whole * s + rest → rest < s → turned % s ≡ rest
  whole_turns whole rest e within = rw e (mod-mul-add whole s rest within)

  left_over : turned % s ≡ advance digits old new
  unfolding advance
  left_over =
      by_test (leb old new)
      (λ e. rw e (whole_turns (turns + 1) (new - old) (omega (arith, leb-true old new e)) (omega (arith, w.new_within))))
      (λ e. let past = leb-false old new e in
      rw e (whole_turns turns (new + s - old) (omega (arith, past, w.old_within)) (omega (arith, past))))

-- Of four digits the first remainder is taken, of five the second.
taken : (digits old new : ℕ) → OnDial digits old new → let turned = new + 100000 - old in
    turned % 10000 + (turned % 100000 - turned % 10000) * (digits - 4) ≡ advance digits old new
unfolding span
taken digits old new w =
    ⊎_elim (λ (four : 4 ≡ digits). rw (← four) (omega (arith, rw (← four) at (left_over 9 w))))
    (λ (above : 4 < digits). let five : 5 ≡ digits = omega (arith, w.digits_within) in
    rw (← five) (omega (arith, rw (← five) at (left_over 0 w))))
    (eq-or-lt_of_le w.digits_within.0)

pub returns : goal.returns
unfolding span
returns c =
    rw (c.dial_span.ensures, c.dial_span-2.ensures, c.dial_span-3.ensures, c.from.ensures)
    (taken c.args.digits c.args.old c.args.new c.requires)
