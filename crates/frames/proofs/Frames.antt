-- Laws of frames. Assumes nothing.
use Rattle.std.specs.Prelude.{None}
use Rattle.common.proofs.Words.{◌≡◌, refl, ◌∙◌, Bool, true, false, ◌&&◌, and-false, List, [], ◌∷◌, ℕ, ◌+◌, ◌*◌, ◌≤◌}
use Rattle.common.proofs.Words.{◌<◌, arith, eqb, leb, length, get_or, take, ne_eqb, leb-true}
use Rattle.lists.specs.Every.{every, Every}
use Rattle.common.proofs.Cases.{by_test}
use Rattle.lists.proofs.Every.{every_true, every_map}
use Rattle.frames.specs.Digits.{is_digit, value_of, value_or, glyph}
use Rattle.frames.specs.Layout.{Row, layout, longest_frame, size_of, framed}
use Rattle.frames.specs.{declared.FrameKind.FrameKind, Frames.kind_of, Frames.frame_of, Frames.parsed, Numbers.character_of}
use Rattle.frames.specs.declared.FrameKind.TheVariants.{Opening, Reading, Missed, Absent, Exchange, Disconnection, Reconnection, Cancellation}
use Rattle.frames.specs.declared.FrameKind.TheVariants.{Payment, StoppedCancellation}
use Rattle.frames.proofs.Digits.{value_digit, char_of, digits_part}

-- The frame of a line by its length and its kind.
pub frame_at : (line : List ℕ) (size kind : ℕ) → length line ≡ size → kind_of line ≡ kind → frame_of line ≡ framed layout size kind line
frame_at line size kind s k = λ i. framed layout (s i) (k i) line

pub parsed_digits : (line : List ℕ) → every is_digit line ≡ true → parsed line ≡ frame_of line
unfolding parsed
parsed_digits line e = rw e

pub parsed_others : (line : List ℕ) → every is_digit line ≡ false → parsed line ≡ None
unfolding parsed
parsed_others line e = rw e

-- No frame where digits alone would make none.
pub no_frame : (line : List ℕ) → (every is_digit line ≡ true → frame_of line ≡ None) → parsed line ≡ None
no_frame line h = by_test (every is_digit line) (λ e. parsed_digits line e ∙ h e) (parsed_others line)

-- No row that fits.
abbrev Unfit : ℕ → ℕ → Row → Type 0
Unfit size kind r = (eqb kind r.kind && eqb size (size_of r.widths)) ≡ false

framed_none : (rows : List Row) (size kind : ℕ) (line : List ℕ) → Every (Unfit size kind) rows → framed rows size kind line ≡ None
framed_none [] size kind line e = refl
framed_none (r ∷ rs) size kind line e = rw e.0 (framed_none rs size kind line e.1)

other_size : (size kind : ℕ) (r : Row) → (size ≡ size_of r.widths → ⊥) → Unfit size kind r
other_size size kind r h = rw (ne_eqb size (size_of r.widths) h) (and-false (eqb kind r.kind))

other_kind : (size kind : ℕ) (r : Row) → (kind ≡ r.kind → ⊥) → Unfit size kind r
other_kind size kind r h = rw (ne_eqb kind r.kind h)

-- A test that all rows pass, and no row of the line's size and kind does.
none_fits : (line : List ℕ) (test : Row → Bool) → every test layout ≡ true
    → (every is_digit line ≡ true → (r : Row) → test r ≡ true → Unfit (length line) (kind_of line) r)
    → parsed line ≡ None
none_fits line test all unfit =
    let size = length line in
    let kind = kind_of line in
    let each = every_true test layout all in
    no_frame line (λ e. framed_none layout size kind line (every_map (λ r. test r ≡ true) (Unfit size kind) (unfit e) layout each))

-- The frames have 6 characters to the longest.
pub too_long : (line : List ℕ) → longest_frame < length line → parsed line ≡ None
too_long line h =
    none_fits line (λ r. leb (size_of r.widths) longest_frame) refl
    (λ e r t. other_size (length line) (kind_of line) r (λ s. omega (arith, leb-true (size_of r.widths) longest_frame t)))

pub too_short : (line : List ℕ) → length line < 6 → parsed line ≡ None
too_short line h =
    none_fits line (λ r. leb 6 (size_of r.widths)) refl
    (λ e r t. other_size (length line) (kind_of line) r (λ s. omega (arith, leb-true 6 (size_of r.widths) t)))

-- The two characters of a kind; the first is 0 in every row.
abbrev low : Row → Bool
low r = leb r.kind 15

pub begins_with : (line : List ℕ) → 2 ≤ length line → take 2 line ≡ get_or line 0 0 ∷ get_or line 1 0 ∷ []
begins_with [] h = absurd (omega arith)
begins_with (a ∷ []) h = absurd (omega arith)
begins_with (a ∷ b ∷ line) h = refl

pub digits_begin : (line : List ℕ) → 2 ≤ length line → every is_digit line ≡ true
    → Every (λ c. is_digit c ≡ true) (get_or line 0 0 ∷ get_or line 1 0 ∷ [])
digits_begin line h e = every_true is_digit (get_or line 0 0 ∷ get_or line 1 0 ∷ []) (rw (begins_with line h) at (digits_part 0 2 line e))

pub kind_is : (line : List ℕ) → 2 ≤ length line → kind_of line ≡ value_of (get_or line 0 0) * 16 + value_of (get_or line 1 0)
kind_is line h = rw (begins_with line h) (omega arith)

pub other_first : (line : List ℕ) → 2 ≤ length line → (get_or line 0 0 ≡ 48 → ⊥) → parsed line ≡ None
other_first line l h = none_fits line low refl (λ e r t. other_kind (length line) (kind_of line) r (λ k. h (nought e r t k)))
  where
    nought : every is_digit line ≡ true → (r : Row) → low r ≡ true → kind_of line ≡ r.kind → get_or line 0 0 ≡ 48
    nought e r t k =
        let none : value_of (get_or line 0 0) ≡ 0 = omega (arith, kind_is line l, leb-true r.kind 15 t) in
        char_of (get_or line 0 0) 0 (omega arith) (value_digit (get_or line 0 0) (digits_begin line l e).0 ∙ none)

-- No row of a kind with this second character.
no_row : (char : ℕ) (rows : List Row) (size : ℕ) (line : List ℕ) → Every (λ r. low r ≡ true) rows → Every (λ r. char ≡ glyph r.kind → ⊥) rows
    → framed rows size (value_or char) line ≡ None
no_row char [] size line e n = refl
no_row char (r ∷ rs) size line e n =
    let unlike = ne_eqb (value_or char) r.kind (λ k. n.0 (char_of char r.kind (omega (arith, leb-true r.kind 15 e.0)) k)) in
    rw unlike (no_row char rs size line e.1 n.1)

pub unknown_kind : (char size : ℕ) (line : List ℕ) → ((kind : FrameKind) → char ≡ character_of kind → ⊥)
    → framed layout size (value_or char) line ≡ None
unknown_kind char size line n = no_row char layout size line (every_true low layout refl) others
  where
    others : Every (λ r. char ≡ glyph r.kind → ⊥) layout
    others =
        search (n Opening, n Reading, n Missed, n Absent, n Exchange, n Disconnection, n Reconnection, n Cancellation, n Payment, n StoppedCancellation)
        depth 30
