-- An input fed in pieces, and both sums for its calls.
use Rattle.std.specs.Prelude.{List, [], ◌∷◌, ◌++◌, ℕ, ◌+◌, min}
use mathlib.Core.{Path.◌≡◌, Bool.cond}
use lib.{Dec.eqb, ListN.length, ListN.take}
use Rattle.lists.specs.{Sum.total, Joined.joined}
use Rattle.account.specs.Calls.{new_account}
use Rattle.audit.specs.Claim.{start, run, final_volume, unpaid_on}
use Rattle.audit.specs.Book.{Book, prices}
use Rattle.frames.specs.Digits.{line_feed}
use Rattle.answers.specs.Answers.{answer_line}
use Rattle.lines.specs.{declared.State.State, Begun.blank_line, Begun.kept_most, Feeding.line_of, Feeding.feeding}
use Rattle.text.specs.{Lines.lines_of, Output.answers_of, Output.account_after, Output.calls_of}

-- The lines that end in what came, behind the part of a line, and the part that it leaves.
unfoldable pub lines_in : List ℕ → List ℕ → List (List ℕ)
lines_in part [] = []
lines_in part (c ∷ cs) = cond (eqb c line_feed) (part ∷ lines_in [] cs) (lines_in (part ++ (c ∷ [])) cs)

unfoldable pub part_after : List ℕ → List ℕ → List ℕ
part_after part [] = part
part_after part (c ∷ cs) = cond (eqb c line_feed) (part_after [] cs) (part_after (part ++ (c ∷ [])) cs)

-- What is written for the lines that end in what came.
unfoldable pub made : List ℕ → List ℕ → List ℕ
made holidays came = joined answer_line (answers_of holidays new_account (lines_in [] came))

-- A state that keeps the first characters of a part of a line.
pub record Holds (s : State) (part : List ℕ) : Type 0 where
  pub line_is : line_of s ≡ take kept_most part
  pub length_is : s.line.length ≡ min (length part) kept_most
  pub line_long : length s.line.characters ≡ kept_most
  pub clear : s.line.length ≡ 0 → s.line.characters ≡ blank_line

-- Where feeding stands: what was taken, and what was written for it.
pub record Stands (holidays seen out : List ℕ) (s : State) : Type 0 where
  pub holds : Holds s (part_after [] seen)
  pub account_is : s.account ≡ account_after holidays new_account (lines_in [] seen)
  pub out_is : out ≡ joined answer_line (answers_of holidays new_account (lines_in [] seen))

-- A state that stands behind what was taken, all that it makes written.
abbrev pub Follows : List ℕ → List ℕ → State → Type 0
Follows holidays seen s = Stands holidays seen (made holidays seen) s

-- The state at the end of an input: the account is the one that all its lines leave, and no line has begun.
pub record AtEnd (holidays input : List ℕ) (s : State) : Type 0 where
  pub account_is : s.account ≡ account_after holidays new_account (lines_of input)
  pub none_begun : s.line.length ≡ 0

-- Of an input that was read no contract can name the bytes: a state that some input leads to, and one at the end of some input.
pub record Behind (holidays : List ℕ) (s : State) : Type 0 where
  pub seen : List ℕ
  pub follows : Follows holidays seen s

pub record Finished (holidays : List ℕ) (s : State) : Type 0 where
  pub input : List ℕ
  pub at_end : AtEnd holidays input s

-- A piece, and the room lent for what it makes.
pub record Piece : Type 0 where
  pub bytes : List ℕ
  pub room : ℕ

-- Pieces fed one after another: the state behind them, the bytes taken and the bytes written, each in order.
abbrev pub state_after : List ℕ → State → List Piece → State
state_after holidays s [] = s
state_after holidays s (piece ∷ pieces) = state_after holidays (feeding holidays piece.room s piece.bytes).state pieces

abbrev pub taken_of : List ℕ → State → List Piece → List ℕ
taken_of holidays s [] = []
taken_of holidays s (piece ∷ pieces) =
    take (feeding holidays piece.room s piece.bytes).taken piece.bytes ++
    taken_of holidays (feeding holidays piece.room s piece.bytes).state pieces

abbrev pub written_of : List ℕ → State → List Piece → List ℕ
written_of holidays s [] = []
written_of holidays s (piece ∷ pieces) =
    (feeding holidays piece.room s piece.bytes).output ++
    written_of holidays (feeding holidays piece.room s piece.bytes).state pieces

-- The book of the calls among lines.
abbrev pub book_of : List ℕ → List (List ℕ) → Book
book_of holidays lines = (run holidays start (calls_of lines)).book

-- Demand 3 for an input: the volumes are those that its answers show, the account is the one that its last line leaves.
pub record Sums (holidays : List ℕ) (lines : List (List ℕ)) : Type 0 where
  pub volumes : total final_volume (answers_of holidays new_account lines) ≡ (book_of holidays lines).metering.advanced
  pub yen :
      let book = book_of holidays lines in
      let account = account_after holidays new_account lines in
      book.money.received + unpaid_on account + account.ledger.held ≡ prices book.periods + book.money.arisen + account.ledger.credit
