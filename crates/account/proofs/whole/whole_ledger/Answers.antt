use Rattle.common.proofs.Words.{le-leb, lt-leb}
use Rattle.account.specs.Whole.{whole_ledger}
use Rattle.account.proofs.whole.whole_ledger.Goals as goal

pub returns-then-ledger-gt-CAPACITY : goal.returns-then-ledger-gt-CAPACITY
unfolding whole_ledger
returns-then-ledger-gt-CAPACITY c = rw (lt-leb _ _ c.if-ledger-gt-CAPACITY.true)

pub returns : goal.returns
unfolding whole_ledger
returns c = rw (le-leb _ _ c.if-ledger-gt-CAPACITY.false) (cc)
