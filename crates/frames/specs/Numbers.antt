-- Frames as numbers: what stands in a frame, before it is a call.
use mathlib.Core.{Path.◌≡◌, Bool.cond, List.List, List.[], List.◌∷◌}
use Rattle.std.specs.Prelude.{Option, Some, MatchOption, ℕ, ◌≤◌, ◌<◌, length, get_or, take, eqb}
use Rattle.intake.specs.declared.Call.{Call}
use Rattle.intake.specs.declared.Call.TheVariants as calls
use Rattle.frames.specs.{declared.Frame.Frame, declared.FrameKind.FrameKind, Digits.glyph, Digits.line_feed}
use Rattle.frames.specs.declared.FrameKind.TheVariants.{Opening, Reading, Missed, Absent, Exchange, Disconnection, Reconnection, Cancellation}
use Rattle.frames.specs.declared.FrameKind.TheVariants.{Payment, StoppedCancellation}
use Rattle.frames.specs.{Layout.fuel, Layout.layout, Layout.longest_frame, Layout.widths_of, Frames.parsed}

-- The number of a kind in the layout, and its second character; the first is 0.
abbrev pub number_of_kind : FrameKind → ℕ
number_of_kind Opening = 1
number_of_kind Reading = 2
number_of_kind Missed = 3
number_of_kind Absent = 4
number_of_kind Exchange = 5
number_of_kind Disconnection = 6
number_of_kind Reconnection = 7
number_of_kind Cancellation = 8
number_of_kind Payment = 9
number_of_kind StoppedCancellation = 10

abbrev pub character_of : FrameKind → ℕ
character_of kind = glyph (number_of_kind kind)

-- The kind of a character, if it is the second of one.
abbrev pub KindOf : ℕ → Option FrameKind → Type 0
KindOf character r = MatchOption r ((kind : FrameKind) → character ≡ character_of kind → ⊥) (λ kind. character ≡ character_of kind)

-- The characters of each field behind the day: up to three of four bytes, then perhaps one of a single byte.
pub record Widths : Type 0 where
  pub first : ℕ
  pub second : ℕ
  pub third : ℕ
  pub short : ℕ

abbrev pub widths : ℕ → ℕ → ℕ → ℕ → Widths
widths first second third short = record { first = first; second = second; third = third; short = short }

abbrev pub long_at : List ℕ → ℕ → ℕ
long_at ws i = cond (eqb (get_or ws i 0) 4) 8 0

abbrev pub short_in : List ℕ → ℕ
short_in [] = 0
short_in (w ∷ ws) = cond (eqb w 1) 2 (short_in ws)

-- The same of a row of the layout, the day before all.
abbrev pub shape_of : List ℕ → Widths
shape_of [] = widths 0 0 0 0
shape_of (day ∷ ws) = widths (long_at ws 0) (long_at ws 1) (long_at ws 2) (short_in ws)

abbrev pub widths_by : FrameKind → Widths
widths_by kind = shape_of (widths_of layout (number_of_kind kind))

-- The call of a kind and of numbers for its fields.
abbrev pub call_by : FrameKind → ℕ → ℕ → ℕ → ℕ → ℕ → Call
call_by Opening day first second third short = calls.Opening day first short
call_by Reading day first second third short = calls.Reading day first (fuel second third)
call_by Missed day first second third short = calls.Missed day (fuel first second)
call_by Absent day first second third short = calls.Absent day (fuel first second)
call_by Exchange day first second third short = calls.Exchange day first second short
call_by Disconnection day first second third short = calls.Disconnection day first (fuel second third)
call_by Reconnection day first second third short = calls.Reconnection day first short
call_by Cancellation day first second third short = calls.Cancellation day first (fuel second third)
call_by Payment day first second third short = calls.Payment day first
call_by StoppedCancellation day first second third short = calls.StoppedCancellation day

abbrev pub call_of : Frame → Call
call_of f = call_by f.kind f.day f.first f.second f.third f.short

-- A frame begins some bytes, with its LF behind it, and they are enough for the longest frame and its LF.
pub record Begins (bytes : List ℕ) (call : Call) (width : ℕ) : Type 0 where
  pub room : longest_frame < length bytes
  pub within : width ≤ longest_frame
  pub ends : get_or bytes width 0 ≡ line_feed
  pub frame : parsed (take width bytes) ≡ Some call

-- The frame that begins some bytes, and its width; none where none does.
abbrev pub FrameAt : List ℕ → Option (Frame × ℕ) → Type 0
FrameAt bytes r = MatchOption r ((call : Call) (width : ℕ) → Begins bytes call width → ⊥) (λ found. Begins bytes (call_of found.0) found.1)

-- Room for the longest frame and its LF, the two characters of a kind, and the characters of each field of this kind.
pub record BeginsKind (bytes : List ℕ) (kind : FrameKind) (first second third short : ℕ) : Type 0 where
  pub room : longest_frame < length bytes
  pub zero : get_or bytes 0 0 ≡ 48
  pub second_character : get_or bytes 1 0 ≡ character_of kind
  pub widths_are : widths_by kind ≡ widths first second third short
