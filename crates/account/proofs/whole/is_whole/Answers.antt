-- A new account is whole where it equals the one that is made.
use Rattle.common.proofs.Words.{◌∙◌, rules}
use Rattle.account.proofs.Equal.{new_compared}
use Rattle.account.proofs.whole.is_whole.Goals as goal

pub returns-in-New : goal.returns-in-New
returns-in-New c = c.eq.ensures ∙ new_compared c.args.account.now _ (search rules) c.in-New.is
