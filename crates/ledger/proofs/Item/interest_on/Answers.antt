-- The last part pays all that is unpaid of the body (`all_paid`), and a sum of 0 bears nothing.
use Rattle.common.proofs.Words.{sym, ap, ◌∙◌}
use Rattle.ledger.specs.Interest.{borne}
use Rattle.ledger.proofs.Interest.{none_borne, all_paid}
use Rattle.ledger.proofs.Item.interest_on.Goals as goal

pub returns-in-Interest : goal.returns-in-Interest
unfolding borne
returns-in-Interest c = rw c.in-Interest.is

pub returns-then-gathered-eq0 : goal.returns-then-gathered-eq0
returns-then-gathered-eq0 c =
    let a = c.args in
    let none = sym c.gathered_with-gathered.ensures ∙ c.if-gathered-eq0.true in
    let sum = sym (all_paid a.self a.day c.requires.called c.requires.bounds) ∙ none in
    sym (ap (borne a.self.kind) sum ∙ none_borne a.self.kind)

pub returns-else-gathered-eq0 : goal.returns-else-gathered-eq0
unfolding borne
returns-else-gathered-eq0 c =
    let a = c.args in
    rw (c.gathered_with-gathered.ensures, all_paid a.self a.day c.requires.called c.requires.bounds, c.in-Price.is)
