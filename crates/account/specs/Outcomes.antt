-- What a call hands back: the account and the answer.
use mathlib.Core.{Bool.cond, List.List, List.[]}
use Rattle.std.specs.Prelude.{◌≡◌, ℕ, Result, IfOk}
use Rattle.common.specs.{declared.Refusal.Refusal, Refusals.told}
use lib.{Dec.eqb, IntN.ℤ, IntN.pos}
use Rattle.meter.specs.Sharing.{volumes_of}
use Rattle.ledger.specs.{Settling.unpaid_of, Posting.standing}
use Rattle.account.specs.{declared.Account.Account, declared.Answer.Answer, declared.Outcome.Outcome, Calls.Work, Calls.work}
use Rattle.account.specs.Refusals.{last_refusal, refusal}
use Rattle.intake.specs.declared.Call.{Call}

-- The answer of an accepted call: number 0, what it worked out, what is unpaid over all open items and the credit after it.
abbrev pub acceptance : ℕ → List ℕ → ℤ → ℕ → ℕ → ℕ → Answer
acceptance estimated volumes net interest unpaid credit =
    record {
      number = 0;
      estimated = estimated;
      volumes = volumes_of volumes;
      net = net;
      interest = interest;
      unpaid = unpaid;
      credit = credit;
    }

abbrev pub accepted : Work → Outcome
accepted w =
    record {
      account = w.account;
      answer =
          acceptance w.estimated w.volumes w.net w.interest (unpaid_of (standing w.account.ledger).open_items)
          w.account.ledger.credit;
    }

-- A declined call: its number, every other field 0, the account as it was.
abbrev pub declining : ℕ → Answer
declining number =
    record { number = number; estimated = 0; volumes = volumes_of []; net = pos 0; interest = 0; unpaid = 0; credit = 0 }

abbrev pub declined : Account → ℕ → Outcome
declined a number = record { account = a; answer = declining number }

-- A call on an account, by a list of closed days.
unfoldable pub outcome : List ℕ → Account → Call → Outcome
outcome holidays a call =
    cond (eqb (refusal holidays a call) 0) (accepted (work holidays a call)) (declined a (refusal holidays a call))

-- What a call comes to that 14, 41 and 1 to 11 let pass: declined by 12 or 13, or accepted.
abbrev pub concluded : Account → Work → Outcome
concluded a w =
    cond (eqb (last_refusal w.account.ledger) 0) (accepted w) (declined a (last_refusal w.account.ledger))

-- What an accepted call comes to, and else the number by which it is declined.
pub record OutcomeAs (number : ℕ) (w : Work) (r : Result Outcome Refusal) : Type 0 where
  pub tells : told r ≡ number
  pub accepts : IfOk r (λ o. o ≡ accepted w)

-- The same of a call that 14, 41 and 1 to 11 let pass.
abbrev pub Concluded : Work → Result Outcome Refusal → Type 0
Concluded w = OutcomeAs (last_refusal w.account.ledger) w
