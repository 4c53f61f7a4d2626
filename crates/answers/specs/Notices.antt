-- Output of `notice`: the line of an open item.
use Rattle.std.specs.Prelude.{List, [], ◌∷◌, ◌++◌, ℕ, Option, Some, None}
use Rattle.calendar.specs.{declared.Date.Date, Conversions.to_date}
use Rattle.ledger.specs.{declared.Kind.Kind, declared.Kind.TheVariants.Interest, declared.Kind.TheVariants.Price, declared.Item.Item}
use Rattle.frames.specs.Digits.{digits, bytes, line_feed}

-- 01 interest, 02 price.
abbrev pub kind_number : Kind → ℕ
kind_number Interest = 1
kind_number Price = 2

-- Eight digits yyyymmdd, and eight zeros for a day that is none.
abbrev pub date_digits : Option Date → List ℕ
date_digits (Some date) = digits 10 4 date.year ++ digits 10 2 date.month ++ digits 10 2 date.day
date_digits None = digits 10 8 0

abbrev pub notice_frame : Item → List ℕ
notice_frame item =
    bytes 1 (kind_number item.kind) ++ date_digits (to_date item.obligation) ++ date_digits (to_date item.due) ++ bytes 8 item.unpaid

unfoldable pub notice_line : Item → List ℕ
notice_line item = notice_frame item ++ (line_feed ∷ [])

abbrev pub notice_length : ℕ
notice_length = 35
