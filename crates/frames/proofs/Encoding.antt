-- Every call has a line that is read as that call, by the layout. Assumes nothing.
use Rattle.std.specs.Prelude.{Option, Some, None}
use Rattle.common.proofs.Words.{◌≡◌, refl, ap, ◌∙◌, true, cond, List, [], ◌∷◌, ◌++◌, append_assoc, ℕ, zero, suc, ◌+◌, ◌*◌, ◌/◌, ◌%◌, ◌^◌}
use Rattle.common.proofs.Words.{◌<◌, pow-suc, arith, eqb, ltb, length, take, length-append, take_at, lt-leb, le-leb, ltb-true, ltb-false}
use Rattle.common.proofs.Words.{eq-eqb}
use lib.Seq.{drop_at}
use Rattle.lists.specs.{Sum.sum, Every.every}
use Rattle.common.proofs.Cases.{by_test}
use Rattle.lists.proofs.Every.{every_behind}
use Rattle.intake.specs.declared.Call.TheVariants.{Opening, Reading, Missed, Absent, Exchange, Disconnection, Reconnection, Cancellation}
use Rattle.intake.specs.declared.Call.TheVariants.{Payment, StoppedCancellation}
use Rattle.intake.specs.declared.Call.{Call}
use Rattle.frames.specs.Digits.{is_digit, value_of, glyph, digits, bytes, number_of}
use Rattle.frames.specs.Layout.{Make, Row, layout, size_of, widths_of, field, filled, framed, told_of}
use Rattle.frames.specs.Frames.{parsed, widths_in, values_in, packed, encoded, Fit}
use Rattle.frames.proofs.{Digits.number_snoc, Digits.length_digits, Frames.frame_at, Frames.parsed_digits}

-- The character of a digit shows it.
value_glyph : (d : ℕ) → d < 16 → value_of (glyph d) ≡ d
value_glyph d h =
    by_test (ltb d 10) (λ e. rw (e, le-leb (48 + d) 57 (omega (arith, ltb-true d 10 e))) (omega arith))
    (λ e. rw (e, lt-leb (87 + d) 57 (omega (arith, ltb-false d 10 e))) (omega arith))

glyph_digit : (d : ℕ) → d < 16 → is_digit (glyph d) ≡ true
unfolding is_digit
glyph_digit d h =
    by_test (ltb d 10) (λ e. rw (e, le-leb (48 + d) 57 (omega (arith, ltb-true d 10 e)), le-leb 48 (48 + d) (omega arith)))
    (λ e.
    let ten = ltb-false d 10 e in
    rw (e, lt-leb (87 + d) 57 (omega arith), le-leb 48 (87 + d) (omega arith))
    (rw (le-leb 97 (87 + d) (omega arith), le-leb (87 + d) 102 (omega arith))))

digits_every : (k n : ℕ) → every is_digit (digits 16 k n) ≡ true
unfolding digits
digits_every zero n = refl
digits_every (suc k) n =
    every_behind is_digit (digits 16 k (n / 16)) (glyph (n % 16) ∷ []) (digits_every k (n / 16)) (rw (glyph_digit (n % 16) (omega arith)))

number_digits : (k n : ℕ) → n < 16 ^ k → number_of (digits 16 k n) ≡ n
unfolding digits
number_digits zero n h = omega arith
number_digits (suc k) n h =
    let less : n / 16 < 16 ^ k = omega (arith, rw (pow-suc 16 k) at h) in
    number_snoc 0 (digits 16 k (n / 16)) (glyph (n % 16)) ∙
    rw (number_digits k (n / 16) less, value_glyph (n % 16) (omega arith)) (omega arith)

packed_every : (ws vs : List ℕ) → every is_digit (packed ws vs) ≡ true
packed_every [] vs = refl
packed_every (w ∷ ws) [] = refl
packed_every (w ∷ ws) (v ∷ vs) = every_behind is_digit (bytes w v) (packed ws vs) (digits_every (2 * w) v) (packed_every ws vs)

packed_length : (ws vs : List ℕ) → Fit ws vs → length (packed ws vs) ≡ 2 * sum ws
packed_length [] vs fit = refl
packed_length (w ∷ ws) [] fit = absurd fit
packed_length (w ∷ ws) (v ∷ vs) fit = rw (length-append, length_digits, packed_length ws vs fit.1) (omega arith)

-- A field behind others.
field_behind : (before rest : List ℕ) (from w v : ℕ) → length before ≡ 2 * from → v < 16 ^ (2 * w)
    → field from w (before ++ (bytes w v ++ rest)) ≡ v
field_behind before rest from w v l h =
    ap (λ xs. number_of (take (2 * w) xs)) (drop_at before (bytes w v ++ rest) (2 * from) l) ∙
    ap number_of (take_at (bytes w v) rest (2 * w) (length_digits 16 (2 * w) v)) ∙
    number_digits (2 * w) v h

-- What a row makes of values in their order.
abbrev given : (ws : List ℕ) → Make ws → List ℕ → Option Call
given [] call [] = Some call
given [] call (v ∷ vs) = None
given (w ∷ ws) make [] = None
given (w ∷ ws) make (v ∷ vs) = given ws (make v) vs

abbrev remade : List Row → ℕ → List ℕ → Option Call
remade [] kind vs = None
remade (r ∷ rs) kind vs = cond (eqb kind r.kind) (given r.widths r.make vs) (remade rs kind vs)

filled_packed : (before : List ℕ) (from : ℕ) (ws : List ℕ) (make : Make ws) (vs : List ℕ) → length before ≡ 2 * from → Fit ws vs
    → Some (filled ws make from (before ++ packed ws vs)) ≡ given ws make vs
filled_packed before from [] make [] l fit = refl
filled_packed before from [] make (v ∷ vs) l fit = absurd fit
filled_packed before from (w ∷ ws) make [] l fit = absurd fit
filled_packed before from (w ∷ ws) make (v ∷ vs) l fit =
    let long : length (before ++ bytes w v) ≡ 2 * (from + w) = rw (length-append, l, length_digits) (omega arith) in
    rw (field_behind before (packed ws vs) from w v l fit.0, ← append_assoc before (bytes w v) (packed ws vs))
    (filled_packed (before ++ bytes w v) (from + w) ws (make v) vs long fit.1)

-- The row of a kind takes the line that is packed by it.
module _ (kind : ℕ) (vs : List ℕ) where
  abbrev Taken : List Row → Type 0
  Taken rows =
      let ws = widths_of rows kind in
      Fit ws vs → framed rows (size_of ws) kind (bytes 1 kind ++ packed ws vs) ≡ remade rows kind vs

  framed_packed : (rows : List Row) → Taken rows
  framed_packed [] fit = refl
  framed_packed (r ∷ rs) fit =
      by_test (eqb kind r.kind)
      (λ e.
      rw (e, eq-eqb (size_of r.widths) (size_of r.widths) refl)
      (filled_packed (bytes 1 kind) 1 r.widths r.make vs (length_digits 16 2 kind) (rw e at fit)))
      (λ e. rw e (framed_packed rs (rw e at fit)))

-- A row tells its call.
told : (call : Call) → remade layout (told_of call).kind (told_of call).values ≡ Some call
told (Opening day reading digits) = refl
told (Reading day reading fuel) = refl
told (Missed day fuel) = refl
told (Absent day fuel) = refl
told (Exchange day old new digits) = refl
told (Disconnection day reading fuel) = refl
told (Reconnection day reading digits) = refl
told (Cancellation day reading fuel) = refl
told (Payment day yen) = refl
told (StoppedCancellation day) = refl

-- Every call is what its line is read as: no two calls share a line, and no frame is out of reach.
pub decoded : (call : Call) → Fit (widths_in call) (values_in call) → parsed (encoded call) ≡ Some call
unfolding encoded
decoded call fit =
    let kind : ℕ = (told_of call).kind in
    let ws : List ℕ = widths_of layout kind in
    let long : length (encoded call) ≡ size_of ws = packed_length (widths_in call) (values_in call) fit in
    let kind_is = field_behind [] (packed ws (told_of call).values) 0 1 kind refl fit.0 in
    parsed_digits (encoded call) (packed_every (widths_in call) (values_in call)) ∙
    frame_at (encoded call) (size_of ws) kind long kind_is ∙
    framed_packed kind (told_of call).values layout fit.1 ∙
    told call
