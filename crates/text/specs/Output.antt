-- What the programs write for an input, by a list of closed days.
use mathlib.Core.{Bool.cond, List.List, List.[], List.◌∷◌}
use Rattle.std.specs.Prelude.{Option, Some, None, ℕ, ◌+◌, ◌-◌, ◌^◌}
use lib.{Dec.leb, ListN.length, ListN.take}
use Rattle.lists.specs.Joined.{joined}
use Rattle.ledger.specs.declared.Item.{Item}
use Rattle.account.specs.{declared.Account.Account, declared.Answer.Answer, Calls.new_account}
use Rattle.intake.specs.declared.Call.{Call}
use Rattle.frames.specs.{Digits.written, Frames.parsed}
use Rattle.answers.specs.{Answers.answer_line, Notices.notice_line}
use Rattle.lines.specs.Line.{line_outcome}
use Rattle.text.specs.Lines.{lines_of}

-- Each line on the account that the line before left.
unfoldable pub answers_of : List ℕ → Account → List (List ℕ) → List Answer
answers_of holidays a [] = []
answers_of holidays a (line ∷ lines) =
    (line_outcome holidays a line).answer ∷
    answers_of holidays (line_outcome holidays a line).account lines

unfoldable pub account_after : List ℕ → Account → List (List ℕ) → Account
account_after holidays a [] = a
account_after holidays a (line ∷ lines) = account_after holidays (line_outcome holidays a line).account lines

-- Each open item, oldest first.
abbrev pub notices_of : List Item → List ℕ
notices_of items = joined notice_line items

abbrev pub open_notices : Account → List ℕ
open_notices a = notices_of (take a.ledger.count a.ledger.items)

-- The programs: input bytes to output bytes. Program `bill` writes one frame a line.
unfoldable pub bill : List ℕ → List ℕ → List ℕ
bill holidays input = joined answer_line (answers_of holidays new_account (lines_of input))

unfoldable pub notice : List ℕ → List ℕ → List ℕ
notice holidays input = open_notices (account_after holidays new_account (lines_of input))

-- The calls among lines.
abbrev pub calls_in : Option Call → List Call → List Call
calls_in (Some call) calls = call ∷ calls
calls_in None calls = calls

abbrev pub calls_of : List (List ℕ) → List Call
calls_of [] = []
calls_of (line ∷ lines) = calls_in (parsed line) (calls_of lines)

-- Longer than any file: such an input is not worked, and its size is the largest number.
abbrev pub longest_input : ℕ
longest_input = 2 ^ 48

abbrev pub size_of : List ℕ → List ℕ → ℕ
size_of input text = cond (leb (length input) longest_input) (length text) (2 ^ 64 - 1)

-- Text that is written from a place on where there is room for it, and otherwise not.
abbrev pub fitted_at : List ℕ → ℕ → List ℕ → List ℕ
fitted_at place at text = cond (leb (at + length text) (length place)) (written place at text) place

abbrev pub fitted : List ℕ → List ℕ → List ℕ
fitted place text = cond (leb (length text) (length place)) (written place 0 text) place

abbrev pub worked : List ℕ → List ℕ → List ℕ → List ℕ
worked input place text = cond (leb (length input) longest_input) (fitted place text) place
