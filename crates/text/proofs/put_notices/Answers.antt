-- The notices are put where there is room for all; their length is that of one for each item (`notices_length`).
use Rattle.common.proofs.Words.{◌≡◌, sym, ap, ◌∙◌, ◌*◌, arith, length, take, rules, le-leb, lt-leb}
use Rattle.lists.proofs.Pad.{length_of_mapped, take_min}
use Rattle.ledger.specs.Limits.{capacity}
use Rattle.answers.specs.Notices.{notice_length}
use Rattle.answers.proofs.Writing.{put_first, put_written}
use Rattle.text.specs.Output.{open_notices, notices_of}
use Rattle.text.proofs.Notices.{notices_length}
use Rattle.text.proofs.put_notices.Goals as goal
use Rattle.text.proofs.put_notices.Goals.{After-min-shown}

items_long : (c : After-min-shown) → length c.args.account.ledger.items ≡ capacity
items_long c = search (length_of_mapped, rules)

size_is : (c : After-min-shown) → notice_length * c.min-shown.result ≡ length (open_notices c.args.account)
size_is c =
    let ledger = c.args.account.ledger in
    omega (arith, notices_length ledger.count ledger.items (items_long c), c.min-shown.ensures)

pub returns-then-size-out-clause-out_after : goal.returns-then-size-out-clause-out_after
returns-then-size-out-clause-out_after c =
    let began = (goal.at.returns-then-size-out-clause-out_after c).After-min-shown in
    let is = size_is began in
    let ledger = c.args.account.ledger in
    let all : take c.min-shown.result ledger.items ≡ take ledger.count ledger.items =
    rw c.min-shown.ensures (take_min ledger.count capacity ledger.items (items_long began)) in
    let fits = le-leb (length (open_notices c.args.account)) (length c.args.out.now) (omega (arith, is, c.if-size-out.true)) in
    rw fits (put_written (put_first c.args.out.now (sym is) (c.put_items.ensures ∙ ap notices_of all)) c.if-size-out.true)

pub returns-else-size-out-clause-value : goal.returns-else-size-out-clause-value
returns-else-size-out-clause-value c = size_is (goal.at.returns-else-size-out-clause-value c).After-min-shown

pub returns-else-size-out-clause-out_after : goal.returns-else-size-out-clause-out_after
returns-else-size-out-clause-out_after c =
    let is = size_is (goal.at.returns-else-size-out-clause-out_after c).After-min-shown in
    rw (lt-leb (length (open_notices c.args.account)) (length c.args.out.now) (omega (arith, is, c.if-size-out.false)))
