-- What a plan comes to on an account.
use mathlib.Core.List.{List}
use Rattle.std.specs.Prelude.{ℕ, Option, None, Some}
use Rattle.meter.specs.declared.Estimates.{Estimates}
use Rattle.ledger.specs.{declared.Ledger.Ledger, declared.Entry.Entry, Posting.standing, Posting.stored, Entries.asked, Entries.interest_posted}
use Rattle.plan.specs.{declared.Plan.Plan, Plans.changed}
use Rattle.account.specs.{declared.Answer.Answer, Calls.account_of, Calls.Work}

-- The work that a plan comes to.
abbrev pub ledger_after : List ℕ → Option Entry → Ledger → Ledger
ledger_after holidays None ledger = ledger
ledger_after holidays (Some entry) ledger = stored (asked holidays entry (standing ledger))

abbrev pub interest_after : List ℕ → Option Entry → Ledger → ℕ
interest_after holidays None ledger = 0
interest_after holidays (Some entry) ledger = interest_posted holidays entry (standing ledger)

abbrev pub work_of : List ℕ → Plan → List ℕ → Estimates → Ledger → Work
work_of holidays p final estimates ledger =
    record {
      account = account_of p.head (changed p estimates) (ledger_after holidays p.entry ledger);
      estimated = p.estimated;
      volumes = final;
      net = p.net;
      interest = interest_after holidays p.entry ledger;
    }

-- The answer of an accepted call, with the volumes that stand in an array.
abbrev pub answer_of : Plan → List ℕ → ℕ → ℕ → ℕ → Answer
answer_of p volumes interest unpaid credit =
    record {
      number = 0;
      estimated = p.estimated;
      volumes = record { count = p.count; volumes = volumes };
      net = p.net;
      interest = interest;
      unpaid = unpaid;
      credit = credit;
    }
