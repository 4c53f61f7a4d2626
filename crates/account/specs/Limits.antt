-- The limits that an account keeps to beside those of its calls.
use Rattle.std.specs.Prelude.{Bool, ℕ, leb}
use Rattle.ledger.specs.Limits.{capacity, most_credit}
pub use Rattle.duedays.specs.Limits.{last_due_day}

-- 12: at most 72 items are open.
abbrev pub items_allowed : ℕ → Bool
items_allowed count = leb count capacity

-- 13: credit is at most 999,999,999 yen.
abbrev pub credit_allowed : ℕ → Bool
credit_allowed credit = leb credit most_credit
