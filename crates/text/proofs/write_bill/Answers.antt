-- An input is too long, or there is room for the longest answers, or it is measured: then all of the output fits, or it does not. Both
-- sums hold of any lines (`sums`).
use Rattle.text.specs.Lines.{lines_of}
use Rattle.text.proofs.Sums.{sums}
use Rattle.text.proofs.write_bill.Goals as goal

pub returns-then-input-gt-LONGEST_INPUT-clause-sums : goal.returns-then-input-gt-LONGEST_INPUT-clause-sums
returns-then-input-gt-LONGEST_INPUT-clause-sums c = sums c.args.holidays.now (lines_of c.args.input.now)

pub returns-then-count_ends-out-clause-sums : goal.returns-then-count_ends-out-clause-sums
returns-then-count_ends-out-clause-sums c = sums c.args.holidays.now (lines_of c.args.input.now)

pub returns-then-measured-out-clause-sums : goal.returns-then-measured-out-clause-sums
returns-then-measured-out-clause-sums c = sums c.args.holidays.now (lines_of c.args.input.now)

pub returns-else-measured-out-clause-sums : goal.returns-else-measured-out-clause-sums
returns-else-measured-out-clause-sums c = sums c.args.holidays.now (lines_of c.args.input.now)
