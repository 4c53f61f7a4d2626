-- States that feeding leads to.
use mathlib.Core.{Path.◌≡◌, List.List}
use Rattle.std.specs.Prelude.{ℕ}
use Rattle.account.specs.declared.Account.{Account}
use Rattle.intake.specs.declared.Call.{Call}
use Rattle.audit.specs.Claim.{start, run}
use Rattle.lines.specs.declared.State.{State}

-- An account that calls from a new one lead to, by a list of closed days.
pub record Reached (holidays : List ℕ) (a : Account) : Type 0 where
  pub calls : List Call
  pub account_is : a ≡ (run holidays start calls).account

-- A state that can be fed: its account is reached.
abbrev pub Ready : List ℕ → State → Type 0
Ready holidays s = Reached holidays s.account
