-- An input that comes in pieces: what is kept between them, and what a piece makes of it.
use Rattle.std.specs.Prelude.{List, [], ◌∷◌, ◌++◌, cond, ℕ, suc, ◌-◌, length, take, eqb, ltb}
use Rattle.account.specs.{declared.Account.Account, declared.Outcome.Outcome, Calls.new_account}
use Rattle.frames.specs.Digits.{line_feed}
use Rattle.answers.specs.Answers.{answer_line, longest_answer}
use Rattle.lines.specs.{declared.State.State, declared.Fed.Fed, Line.line_outcome, Begun.none_begun, Begun.keeping}

-- No line has begun.
abbrev pub between : Account → State
between a = record { account = a; line = none_begun }

abbrev pub fresh : State
fresh = between new_account

-- The part of a line that came.
abbrev pub line_of : State → List ℕ
line_of s = take s.line.length s.line.characters

abbrev pub kept : State → ℕ → State
kept s c = record { account = s.account; line = keeping s.line c }

abbrev pub line_ends : List ℕ → State → Outcome
line_ends holidays s = line_outcome holidays s.account (line_of s)

-- A line that has ended leaves no trace.
abbrev pub ended : List ℕ → State → State
ended holidays s = between (line_ends holidays s).account

-- What a piece makes: the state behind it, what is written, how many bytes of the piece were taken.
pub record Feeding : Type 0 where
  pub state : State
  pub output : List ℕ
  pub taken : ℕ

abbrev pub nothing : State → Feeding
nothing s = record { state = s; output = []; taken = 0 }

abbrev pub behind : List ℕ → Feeding → Feeding
behind xs f = record { state = f.state; output = xs ++ f.output; taken = suc f.taken }

-- Byte by byte; before a line's end that the room left might not hold, it stops.
unfoldable pub feeding : List ℕ → ℕ → State → List ℕ → Feeding
feeding holidays room s [] = nothing s
feeding holidays room s (c ∷ cs) =
    cond (eqb c line_feed)
    (cond (ltb room longest_answer) (nothing s)
    (behind (answer_line (line_ends holidays s).answer)
    (feeding holidays (room - length (answer_line (line_ends holidays s).answer)) (ended holidays s) cs)))
    (behind [] (feeding holidays room (kept s c) cs))

abbrev pub fed_of : Feeding → Fed
fed_of f = record { state = f.state; taken = f.taken; written = length f.output }

-- The end of the input ends a line that has begun, as an LF would.
unfoldable pub finishing : List ℕ → ℕ → State → Feeding
finishing holidays room s = cond (eqb s.line.length 0) (nothing s) (feeding holidays room s (line_feed ∷ []))
