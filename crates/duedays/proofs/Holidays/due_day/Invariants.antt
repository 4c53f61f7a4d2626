-- Every day from the first that can be due up to `due` is listed, and the next place is that of `due`.
use Rattle.std.proofs.Common.{◌≡◌, ℕ, ◌+◌, ◌≤◌, ◌<◌, true}
use Rattle.duedays.specs.{Limits.term, DueDays.listed, Search.FirstFrom}
use Rattle.duedays.proofs.Holidays.due_day.Given as goal

abbrev pub invariant-loop-listed : goal.invariant-loop-listed
invariant-loop-listed l =
    record {
      from : l.day + term ≤ l.due;
      most : l.due ≤ l.day + term + l.at + l.listed-index;
      place : FirstFrom l.self.days.now l.due (l.at + l.listed-index);
      passes : (d : ℕ) → l.day + term ≤ d → d < l.due → listed l.self.days.now d ≡ true;
    }
