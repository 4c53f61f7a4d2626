-- A feeding under way, line by line.
use mathlib.Core.{Path.◌≡◌, Logic.◌≢◌, List.List, List.◌++◌}
use Rattle.std.specs.Prelude.{All, Option, Some, None, ℕ, ◌+◌, ◌-◌, ◌≤◌, ◌<◌, length, get_or, drop}
use Rattle.account.specs.{declared.Account.Account, declared.Outcome.Outcome}
use Rattle.intake.specs.declared.Call.{Call}
use Rattle.frames.specs.Numbers.{call_of}
use Rattle.frames.specs.Digits.{line_feed, written}
use Rattle.answers.specs.Answers.{answer_line, longest_answer}
use Rattle.lines.specs.Feeding.{between, Feeding, nothing, feeding, fed_of}
use Rattle.lines.specs.{declared.State.State, declared.Fed.Fed, declared.Next.Next, declared.Found.Found, Line.parsed_outcome}
use Rattle.lines.specs.Begun.{Begun, none_begun}
use Rattle.lines.specs.declared.Next.TheVariants.{Waits, NoFrame, Frame}

abbrev pub state : Account → Begun → State
state account line = record { account = account; line = line }

-- The bytes between two places do no more than lead from what is made before them to what is made behind them.
pub record Leads (from taken : ℕ) (before behind : Feeding) : Type 0 where
  pub same_state : before.state ≡ behind.state
  pub same_output : before.output ≡ behind.output
  pub same_taken : from + before.taken ≡ taken + behind.taken

-- What is made where a text is written first.
abbrev pub writing : List ℕ → Feeding → Feeding
writing text f = record { state = f.state; output = text ++ f.output; taken = f.taken }

-- What an input makes from a place on, of an account and what is kept of a line.
abbrev pub fed_from : List ℕ → List ℕ → ℕ → ℕ → State → Feeding
fed_from holidays input from room s = feeding holidays room s (drop from input)

-- What it makes behind a line that is read as this: the answer, then what is made between lines.
abbrev pub fed_behind : List ℕ → List ℕ → ℕ → ℕ → Outcome → Feeding
fed_behind holidays input taken room o =
    writing (answer_line o.answer) (fed_from holidays input taken (room - length (answer_line o.answer)) (between o.account))

-- No character ends a line.
abbrev pub NoEnd : List ℕ → Type 0
NoEnd = All (λ c. c ≢ line_feed)

-- Where a line's characters end.
pub record Keeps (input : List ℕ) (from : ℕ) (line kept : Begun) (taken : ℕ) : Type 0 where
  pub onward : from ≤ taken
  pub within : taken ≤ length input
  pub ends : taken < length input → get_or input taken 0 ≡ line_feed
  pub leads : (holidays : List ℕ) (a : Account) (room : ℕ)
      → Leads from taken (fed_from holidays input from room (state a line)) (fed_from holidays input taken room (state a kept))

-- What a line that ended is read as; none where it waits.
abbrev pub read_as : Next → Option (Option Call)
read_as Waits = None
read_as NoFrame = Some None
read_as (Frame frame) = Some (Some (call_of frame))

-- A line that ended: there is room for its answer, and what it comes to is what its frame's call comes to, or 40, or 14.
pub record Ends (input : List ℕ) (from room : ℕ) (line kept : Begun) (r : Found) (read : Option Call) : Type 0 where
  pub room_left : longest_answer ≤ room
  pub onward : from < r.taken
  pub none_begun : kept ≡ none_begun
  pub leads : (holidays : List ℕ) (a : Account)
      → Leads from r.taken (fed_from holidays input from room (state a line))
      (fed_behind holidays input r.taken room (parsed_outcome holidays a read))

-- The next line.
pub record Finds (input : List ℕ) (from room : ℕ) (line kept : Begun) (r : Found) : Type 0 where
  pub within : r.taken ≤ length input
  pub ended : (read : Option Call) → read_as r.next ≡ Some read → Ends input from room line kept r read
  pub waits : read_as r.next ≡ None → (holidays : List ℕ) (a : Account)
      → Leads from r.taken (fed_from holidays input from room (state a line)) (nothing (state a kept))

abbrev pub found_at : Next → ℕ → Found
found_at next taken = record { next = next; taken = taken }

-- What a piece makes of a state by a list that breaks its bounds: the account stays.
pub record Declines (holidays input text : List ℕ) (s : State) (out : List ℕ) (r : Fed) : Type 0 where
  pub fed : r ≡ fed_of (feeding holidays (length text) s input)
  pub text_is : out ≡ written text 0 (feeding holidays (length text) s input).output
  pub taken_most : r.taken ≤ length input
  pub written_most : r.written ≤ length text
  pub account_is : r.state.account ≡ s.account
