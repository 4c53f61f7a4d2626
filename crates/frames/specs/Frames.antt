-- Input: a line of lower-case hexadecimal is a frame, kind (1 byte), day (2) and the fields of its kind, or it is none.
use Rattle.std.specs.Prelude.{List, [], ◌∷◌, ◌++◌, cond, Option, None, ℕ, ◌*◌, ◌^◌, ◌<◌, length}
use Rattle.lists.specs.Every.{every}
use Rattle.intake.specs.declared.Call.{Call}
use Rattle.frames.specs.Layout.{layout, widths_of, field, framed, told_of}
use Rattle.frames.specs.{Digits.is_digit, Digits.bytes}

abbrev pub kind_of : List ℕ → ℕ
kind_of line = field 0 1 line

abbrev pub frame_of : List ℕ → Option Call
frame_of line = framed layout (length line) (kind_of line) line

-- Other characters make no frame.
unfoldable pub parsed : List ℕ → Option Call
parsed line = cond (every is_digit line) (frame_of line) None

-- The bytes of a call's kind and of its fields, and their values.
abbrev pub widths_in : Call → List ℕ
widths_in call = 1 ∷ widths_of layout (told_of call).kind

abbrev pub values_in : Call → List ℕ
values_in call = (told_of call).kind ∷ (told_of call).values

-- Values, each in its bytes.
abbrev pub packed : List ℕ → List ℕ → List ℕ
packed [] vs = []
packed (w ∷ ws) [] = []
packed (w ∷ ws) (v ∷ vs) = bytes w v ++ packed ws vs

-- The line of a call.
unfoldable pub encoded : Call → List ℕ
encoded call = packed (widths_in call) (values_in call)

-- Each value in its bytes, two digits a byte: what the types of a call hold.
abbrev pub Fit : List ℕ → List ℕ → Type 0
Fit [] [] = Unit {0}
Fit [] (v ∷ vs) = ⊥
Fit (w ∷ ws) [] = ⊥
Fit (w ∷ ws) (v ∷ vs) = (v < 16 ^ (2 * w)) × Fit ws vs
