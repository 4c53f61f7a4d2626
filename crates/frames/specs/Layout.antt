-- The frames, told once: a row for each call, with its kind, the bytes of each field behind the kind, and the call that the fields make.
use mathlib.Core.{Bool.cond, Bool.◌&&◌, List.List, List.[], List.◌∷◌}
use Rattle.std.specs.Prelude.{Option, Some, None, ℕ, ◌+◌, ◌*◌}
use lib.{Dec.eqb, ListN.take, ListN.drop}
use Rattle.lists.specs.Sum.{sum}
use Rattle.tariff.specs.declared.Fuel.{Fuel}
use Rattle.intake.specs.declared.Call.TheVariants.{Opening, Reading, Missed, Absent, Exchange, Disconnection, Reconnection, Cancellation}
use Rattle.intake.specs.declared.Call.TheVariants.{Payment, StoppedCancellation}
use Rattle.intake.specs.declared.Call.{Call}
use Rattle.frames.specs.Digits.{number_of}

-- What makes a call of a number for each field.
abbrev pub Make : List ℕ → Type 0
Make [] = Call
Make (w ∷ ws) = ℕ → Make ws

pub record Row : Type 0 where
  pub kind : ℕ
  pub widths : List ℕ
  pub make : Make widths

abbrev pub row : ℕ → (ws : List ℕ) → Make ws → Row
row kind ws make = record { kind = kind; widths = ws; make = make }

abbrev pub fuel : ℕ → ℕ → Fuel
fuel lng propane = record { lng = lng; propane = propane }

-- The day (2) first; the two prices are LNG and propane.
abbrev pub layout : List Row
layout =
    row 1 (2 ∷ 4 ∷ 1 ∷ []) Opening
    ∷ row 2 (2 ∷ 4 ∷ 4 ∷ 4 ∷ []) (λ day reading lng propane. Reading day reading (fuel lng propane))
    ∷ row 3 (2 ∷ 4 ∷ 4 ∷ []) (λ day lng propane. Missed day (fuel lng propane))
    ∷ row 4 (2 ∷ 4 ∷ 4 ∷ []) (λ day lng propane. Absent day (fuel lng propane))
    ∷ row 5 (2 ∷ 4 ∷ 4 ∷ 1 ∷ []) Exchange
    ∷ row 6 (2 ∷ 4 ∷ 4 ∷ 4 ∷ []) (λ day reading lng propane. Disconnection day reading (fuel lng propane))
    ∷ row 7 (2 ∷ 4 ∷ 1 ∷ []) Reconnection
    ∷ row 8 (2 ∷ 4 ∷ 4 ∷ 4 ∷ []) (λ day reading lng propane. Cancellation day reading (fuel lng propane))
    ∷ row 9 (2 ∷ 4 ∷ []) Payment
    ∷ row 10 (2 ∷ []) StoppedCancellation
    ∷ []

-- The characters of a frame: two a byte, the kind's among them.
abbrev pub size_of : List ℕ → ℕ
size_of ws = 2 * (1 + sum ws)

-- The longest frame is a reading's.
abbrev pub longest_frame : ℕ
longest_frame = 30

-- The widths of the row of a kind; none where no row has it.
abbrev pub widths_of : List Row → ℕ → List ℕ
widths_of [] kind = []
widths_of (r ∷ rs) kind = cond (eqb kind r.kind) r.widths (widths_of rs kind)

-- The number of so many bytes that stand behind others, two digits a byte.
abbrev pub field : ℕ → ℕ → List ℕ → ℕ
field from width line = number_of (take (2 * width) (drop (2 * from) line))

-- The call whose fields stand in a line behind so many bytes.
abbrev pub filled : (ws : List ℕ) → Make ws → ℕ → List ℕ → Call
filled [] call from line = call
filled (w ∷ ws) make from line = filled ws (make (field from w line)) (from + w) line

-- The frame of the first row of this kind and size.
abbrev pub framed : List Row → ℕ → ℕ → List ℕ → Option Call
framed [] size kind line = None
framed (r ∷ rs) size kind line =
    cond (eqb kind r.kind && eqb size (size_of r.widths)) (Some (filled r.widths r.make 1 line)) (framed rs size kind line)

-- The other way: the kind of a call, and the values of its fields in their order.
pub record Told : Type 0 where
  pub kind : ℕ
  pub values : List ℕ

abbrev pub of : ℕ → List ℕ → Told
of kind values = record { kind = kind; values = values }

abbrev pub told_of : Call → Told
told_of (Opening day reading digits) = of 1 (day ∷ reading ∷ digits ∷ [])
told_of (Reading day reading fuel) = of 2 (day ∷ reading ∷ fuel.lng ∷ fuel.propane ∷ [])
told_of (Missed day fuel) = of 3 (day ∷ fuel.lng ∷ fuel.propane ∷ [])
told_of (Absent day fuel) = of 4 (day ∷ fuel.lng ∷ fuel.propane ∷ [])
told_of (Exchange day old new digits) = of 5 (day ∷ old ∷ new ∷ digits ∷ [])
told_of (Disconnection day reading fuel) = of 6 (day ∷ reading ∷ fuel.lng ∷ fuel.propane ∷ [])
told_of (Reconnection day reading digits) = of 7 (day ∷ reading ∷ digits ∷ [])
told_of (Cancellation day reading fuel) = of 8 (day ∷ reading ∷ fuel.lng ∷ fuel.propane ∷ [])
told_of (Payment day yen) = of 9 (day ∷ yen ∷ [])
told_of (StoppedCancellation day) = of 10 (day ∷ [])
