-- Demand 3: what holds, by any list of closed days, after every list of calls from a new account, declined ones among them.
use mathlib.Core.{Path.◌≡◌, Bool.true, List.List, List.[], List.◌∷◌}
use Rattle.std.specs.Prelude.{ℕ, ◌+◌, take}
use Rattle.lists.specs.Sum.{total, sum}
use Rattle.ledger.specs.{Settling.unpaid_of, Posting.standing}
use Rattle.account.specs.{declared.Account.Account, declared.Answer.Answer, declared.Outcome.Outcome, Calls.new_account, Outcomes.outcome}
use Rattle.account.specs.Whole.{whole}
use Rattle.intake.specs.declared.Call.{Call}
use Rattle.audit.specs.Book.{Book, empty, enter, prices}

-- A list of calls, each given the account that the one before handed back: the account and the book after it, and the answers, the latest first.
pub record Run : Type 0 where
  pub account : Account
  pub book : Book
  pub answers : List Answer

abbrev pub start : Run
start = record { account = new_account; book = empty; answers = [] }

abbrev pub step : List ℕ → Run → Call → Run
step holidays r call =
    record {
      account = (outcome holidays r.account call).account;
      book = enter holidays r.book call (outcome holidays r.account call).answer.number;
      answers = (outcome holidays r.account call).answer ∷ r.answers;
    }

unfoldable pub run : List ℕ → Run → List Call → Run
run holidays r [] = r
run holidays r (call ∷ calls) = run holidays (step holidays r call) calls

-- The n volumes of an answer.
abbrev pub final_volume : Answer → ℕ
final_volume answer = sum (take answer.volumes.count answer.volumes.volumes)

abbrev pub unpaid_on : Account → ℕ
unpaid_on a = unpaid_of (standing a.ledger).open_items

pub record Reconciled (holidays : List ℕ) (r : Run) : Type 0 where
  -- final volumes = what the meters advanced under supply up to the latest real closing
  pub volumes : total final_volume r.answers ≡ r.book.metering.advanced
  -- yen received + unpaid + interest held = prices at standing volumes + interest arisen + credit
  pub yen :
      r.book.money.received + unpaid_on r.account + r.account.ledger.held ≡
      prices r.book.periods + r.book.money.arisen + r.account.ledger.credit
  pub is_whole : whole r.account ≡ true
  -- a declined call leaves account and book as they are
  pub declined : (call : Call) → ((outcome holidays r.account call).answer.number ≡ 0 → ⊥)
      → ((step holidays r call).account ≡ r.account) × ((step holidays r call).book ≡ r.book)

-- What ran: a call, and the account and answer that its method handed back.
pub record Done : Type 0 where
  pub call : Call
  pub handed_back : Outcome

-- Calls that ran one after another on the account that the one before handed back. The contract of each method, and of `Account::apply`, is the equation.
abbrev pub Ran : List ℕ → Account → List Done → Type 0
Ran holidays a [] = Unit {0}
Ran holidays a (done ∷ later) = (done.handed_back ≡ outcome holidays a done.call) × Ran holidays done.handed_back.account later

-- The account, the book and the answers of what ran.
unfoldable pub seen : List ℕ → Run → List Done → Run
seen holidays r [] = r
seen holidays r (done ∷ later) =
    seen holidays
    (record {
      account = done.handed_back.account;
      book = enter holidays r.book done.call done.handed_back.answer.number;
      answers = done.handed_back.answer ∷ r.answers;
    })
    later
