-- What was read stands in the array from the front.
use Rattle.std.proofs.Common.{◌≡◌, ◌+◌, ◌-◌, ◌≤◌, length, take}
use Rattle.std.specs.Io.KnownBytes.{Consumes}
use Rattle.closedfile.specs.ClosedFile.{longest_file}
use Rattle.driver.proofs.read_front.Given as goal

abbrev pub invariant-loop-length : goal.invariant-loop-length
invariant-loop-length g l =
    record {
      long : length l.bytes ≡ longest_file + 1;
      within : l.length ≤ longest_file + 1;
      read : Consumes (g.F.Read.remaining l.initial.file) (g.F.Read.remaining l.file) (take l.length l.bytes);
    }

abbrev pub decreases-loop-length : goal.decreases-loop-length
decreases-loop-length g l = longest_file + 1 - l.length
