-- The front of a file tells its list.
use Rattle.driver.proofs.Runs.{list_known}
use Rattle.driver.proofs.list_of.Goals as goal

pub returns-clause-known : goal.returns-clause-known
returns-clause-known g c = list_known _ _ _ c.list_in.ensures c.in_ok-front.ensures.known
