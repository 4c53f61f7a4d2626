use Rattle.figures.proofs.Starred.{starred}
use Rattle.figures.proofs.starred_figures.Goals as goal

pub returns : goal.returns
returns c = starred
