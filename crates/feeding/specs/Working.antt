-- An account worked in parts: its head, its estimates, and what stands on its ledger as open items.
use mathlib.Core.{Path.◌≡◌, List.List}
use Rattle.std.specs.Prelude.{Option, Some, None, Result, Ok, Err, IfOk, ℕ, ◌≤◌, length, take}
use Rattle.common.specs.{declared.Refusal.Refusal, Refusals.number_of, Refusals.told}
use Rattle.meter.specs.declared.Estimates.{Estimates}
use Rattle.ledger.specs.{Settling.unpaid_of, Posting.Standing, Posting.standing, Posting.stored, declared.Entry.Entry}
use Rattle.ledger.specs.Entries.{asked, number_of as number_after, next, interest_posted}
use Rattle.intake.specs.declared.Head.{Head}
use Rattle.plan.specs.Plans.{changed, Room}
use Rattle.account.specs.{Calls.account_of, Calls.head_of, declared.Account.Account, declared.Answer.Answer, declared.Outcome.Outcome}
use Rattle.account.specs.{Outcomes.acceptance, Outcomes.declined}
use Rattle.frames.specs.Digits.{written}
use Rattle.lines.specs.{declared.State.State, Going.state, Feeding.feeding, Feeding.fed_of}
use Rattle.feeding.specs.{declared.Desk.Desk, declared.Went.Went, declared.Worked.Worked, Reached.Reached}

abbrev pub account_in : Head → Estimates → Standing → Account
account_in h estimates items = account_of h estimates (stored items)

-- The parts of an account that calls lead to.
pub record Lain (holidays : List ℕ) (h : Head) (estimates : Estimates) (items : Standing) : Type 0 where
  pub count_is : estimates.count ≡ h.standing
  pub reached : Reached holidays (account_in h estimates items)

-- The account and the state that lie on a desk.
abbrev pub account_on : Desk → Account
account_on d = account_in d.head d.estimates d.items

abbrev pub state_on : Desk → State
state_on d = state (account_on d) d.line

-- A state, its account laid out in parts.
abbrev pub laid_out : State → Desk
laid_out s = record { head = head_of s.account; estimates = s.account.estimates; items = standing s.account.ledger; line = s.line }

-- Lines can be fed to a desk: to the parts of an account.
abbrev pub Feedable : List ℕ → Desk → Type 0
Feedable holidays d = Lain holidays d.head d.estimates d.items

-- An entry entered: one that is refused changes nothing.
pub record Entered (holidays : List ℕ) (entry : Entry) (before : Standing) (r : Result ℕ Refusal) (after : Standing) : Type 0 where
  pub tells : told r ≡ number_after (asked holidays entry before)
  pub stands : after ≡ next holidays entry before
  pub interest : IfOk r (λ interest. interest ≡ interest_posted holidays entry before)

-- What a plan asks of the ledger, entered.
abbrev pub EntersAs : List ℕ → Option Entry → Standing → Result ℕ Refusal → Standing → Type 0
EntersAs holidays None before r after = (r ≡ Ok 0) × (after ≡ before)
EntersAs holidays (Some entry) before r after = Entered holidays entry before r after

-- The answer of an accepted call, by what is open after it.
abbrev pub answer_of : Worked → List ℕ → Standing → Answer
answer_of w volumes items =
    acceptance w.plan.estimated (take w.plan.count volumes) w.plan.net w.interest (unpaid_of items.open_items) items.credit

-- What is worked of an accepted call: the account and the answer of its outcome.
pub record Accepts (estimates : Estimates) (o : Outcome) (w : Worked) (after : Standing) (volumes : List ℕ) : Type 0 where
  pub account_is : account_in w.plan.head (changed w.plan estimates) after ≡ o.account
  pub answer_is : answer_of w volumes after ≡ o.answer
  pub counted : (changed w.plan estimates).count ≡ w.plan.head.standing
  pub room : Room w.plan.change estimates.count
  pub shown : length (take w.plan.count volumes) ≡ w.plan.count

-- What a line comes to. One that is refused changes nothing.
abbrev pub Comes : Head → Estimates → Standing → Outcome → Result Worked Refusal → Standing → List ℕ → Type 0
Comes h estimates before o (Ok w) after volumes = Accepts estimates o w after volumes
Comes h estimates before o (Err refusal) after volumes =
    (o ≡ declined (account_in h estimates before) (number_of refusal)) × (after ≡ before)

-- What a run of lines makes of a desk.
pub record Runs (holidays input text : List ℕ) (before after : Desk) (out : List ℕ) (r : Went) : Type 0 where
  pub fed :
      record { state = state_on after; taken = r.taken; written = r.written } ≡
      fed_of (feeding holidays (length text) (state_on before) input)
  pub text_is : out ≡ written text 0 (feeding holidays (length text) (state_on before) input).output
  pub taken_most : r.taken ≤ length input
  pub written_most : r.written ≤ length text
  pub feedable : Feedable holidays after
