-- Due days that banks can keep: request a of document 02. A day is a number; day 0 is 1 January 2000.
use Rattle.std.specs.Prelude.{Bool, true, false, cond, ◌&&◌, ◌||◌, List, [], ◌∷◌, ℕ, zero, suc, ◌+◌}
use lib.{Dec.leb, Dec.ltb, Dec.eqb, ListN.length}
use Rattle.lists.specs.Every.{every}
use Rattle.duedays.specs.Limits.{most_listed, last_due_day, term}

-- A day that a list of closed days has. In names, closed days are holidays.
abbrev pub listed : List ℕ → ℕ → Bool
listed [] day = false
listed (holiday ∷ holidays) day = eqb holiday day || listed holidays day

-- strictly rising
abbrev pub rising : List ℕ → Bool
rising [] = true
rising (holiday ∷ []) = true
rising (holiday ∷ next ∷ holidays) = ltb holiday next && rising (next ∷ holidays)

-- 14: the list is strictly rising, of at most 400 entries, each at most 36,524.
unfoldable pub list_allowed : List ℕ → Bool
list_allowed holidays = leb (length holidays) most_listed && every (λ day. leb day last_due_day) holidays && rising holidays

-- The first day from this one on that isn't listed, where at most so many of them are.
abbrev pub first_open : ℕ → List ℕ → ℕ → ℕ
first_open zero holidays day = day
first_open (suc more) holidays day = cond (listed holidays day) (first_open more holidays (day + 1)) day

-- The due day is the first day from obligation day + 30 on that isn't listed. At most as many days are listed as the list has entries.
unfoldable pub due_day : List ℕ → ℕ → ℕ
due_day holidays day = first_open (length holidays) holidays (day + term)
