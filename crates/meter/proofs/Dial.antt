-- Laws of dials. Assumes nothing.
use Rattle.common.proofs.Words.{◌≡◌, refl, sym, ⊎_elim, Bool, true, false, cond, ℕ, ◌+◌, ◌-◌, ◌≤◌, ◌<◌, eq-or-lt_of_le, arith, leb}
use Rattle.common.proofs.Words.{leb-false}
use Rattle.meter.specs.Dial.{span, advance, Digits, OnDial}

pub span_four : {digits : ℕ} → digits ≡ 4 → span digits ≡ 10000
unfolding span
span_four e = rw e

pub span_five : {digits : ℕ} → Digits digits → (digits ≡ 4 → ⊥) → span digits ≡ 100000
unfolding span
span_five {digits} w h = let e : digits ≡ 5 = omega arith in rw e

pub span_most : (digits : ℕ) → Digits digits → span digits ≤ 100000
span_most digits w =
    ⊎_elim (λ (e : 4 ≡ digits). omega (arith, span_four (sym e))) (λ (l : 4 < digits). omega (arith, span_five w (omega arith)))
    (eq-or-lt_of_le w.0)

-- An advance stays below the span, and takes the old reading to the new one, past the span at most once.
pub advance_within : (digits old new : ℕ) → OnDial digits old new → advance digits old new < span digits
unfolding advance
advance_within digits old new w = go (leb old new) refl
  where
    go : (b : Bool) → leb old new ≡ b → cond b (new - old) (new + span digits - old) < span digits
    go true e = omega (arith, w.new_within)
    go false e = omega (arith, leb-false old new e, w.old_within)
