-- When a call is declined: 14, 41, then 1 to 13. 0 stands for none.
use mathlib.Core.{Bool.cond, List.List}
use Rattle.std.specs.Prelude.{ℕ, ltb}
use Rattle.duedays.specs.DueDays.{list_allowed}
use Rattle.ledger.specs.declared.Ledger.{Ledger}
use Rattle.intake.specs.{declared.Call.Call, Refusals.unless, Refusals.first_refusal}
use Rattle.account.specs.{declared.Account.Account, Limits.items_allowed, Limits.credit_allowed, Calls.head_of, Calls.work, Whole.whole}

-- 12 and 13: what would be open, and the credit, when the call ends.
abbrev pub last_refusal : Ledger → ℕ
last_refusal ledger = unless (items_allowed ledger.count) 12 (unless (credit_allowed ledger.credit) 13 0)

-- the first cause that applies
abbrev pub or_else : ℕ → ℕ → ℕ
or_else number others = cond (ltb 0 number) number others

-- 14, a list of closed days that breaks its bounds; then 41, then 1 to 13.
unfoldable pub refusal : List ℕ → Account → Call → ℕ
refusal holidays a call =
    unless (list_allowed holidays) 14
    (unless (whole a) 41 (or_else (first_refusal (head_of a) call) (last_refusal (work holidays a call).account.ledger)))
