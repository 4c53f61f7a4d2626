-- The bounds of a list of closed days, and of the days that calls and items have.
use Rattle.std.specs.Prelude.{ℕ}

-- At most 400 days are listed.
abbrev pub most_listed : ℕ
most_listed = 400

-- The last day of the calendar: no listed day is later, and no due day.
abbrev pub last_due_day : ℕ
last_due_day = 36524

-- The days from an obligation to the first day that it can be due on (H).
abbrev pub term : ℕ
term = 30

-- 2: the last day that a call may bear. Every due day can still be printed: 36,094 + 30 + 400 = 36,524.
abbrev pub last_call_day : ℕ
last_call_day = 36094
