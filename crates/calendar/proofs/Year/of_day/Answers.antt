use Rattle.std.proofs.Common.{arith}
use Rattle.calendar.proofs.Dates.{year_between}
use Rattle.calendar.proofs.Year.of_day.Goals as goal

pub returns-then-rest-lt366 : goal.returns-then-rest-lt366
returns-then-rest-lt366 c = year_between c.args.number _ (omega arith) (omega arith) (omega arith) (omega arith)

pub returns : goal.returns
returns c = year_between c.args.number _ (omega arith) (omega arith) (omega arith) (omega arith)
