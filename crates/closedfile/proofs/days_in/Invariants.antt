-- Line by line: the lines so far are of the form, and their days stand in the array (`Reads`).
use Rattle.std.specs.Slice.Iter.{chunks_rest, chunks_size}
use Rattle.common.proofs.Words.{◌≡◌, ◌≤◌}
use Rattle.duedays.specs.Limits.{most_listed}
use Rattle.closedfile.proofs.ClosedFile.{Reads}
use Rattle.closedfile.proofs.days_in.Given as goal

abbrev pub invariant-loop-line : goal.invariant-loop-line
invariant-loop-line l =
    record {
      can_next : (goal.iterator-loop-line).can_next l.line-iterator;
      finite : (goal.iterator-loop-line).is_finite l.line-iterator;
      size_is : chunks_size l.line-iterator ≡ 5;
      few : l.count ≤ most_listed;
      reads : Reads l.file (chunks_rest l.line-iterator) l.count l.days;
    }
