-- The account's parts are laid on a desk, and put together again: it is the account that it was, and the one that its parts stand for.
use Rattle.common.proofs.Words.{refl, ◌∙◌, length}
use Rattle.account.proofs.Ready.{open_bounds}
use Rattle.frames.specs.Digits.{written}
use Rattle.lines.specs.{Feeding.feeding, Feeding.fed_of, Going.state}
use Rattle.feeding.proofs.Entering.{account_spread, lain_spread}
use Rattle.feeding.proofs.Reached.{reached_whole}
use Rattle.feeding.proofs.feed.Goals as goal

pub of-desk-requires : goal.of-desk-requires
of-desk-requires c =
    let a = c.args.state.account in
    open_bounds a (reached_whole c.args.holidays.now a c.requires)

pub feed_lines-went-requires : goal.feed_lines-went-requires
feed_lines-went-requires c = rw (c.in-Some.ensures.list, c.of-desk.ensures) (lain_spread c.requires refl refl)

pub returns-clause-value : goal.returns-clause-value
returns-clause-value c =
    let s = c.args.state in
    let laid = account_spread c.requires refl refl in
    let list = c.in-Some.ensures.list in
    let n = length c.args.out.now in
    let went = rw c.of-desk.ensures at c.feed_lines-went.ensures in
    rw c.state.ensures
    (went.fed ∙ (λ i. fed_of (feeding (list i) n (state (laid i) s.line) c.args.input.now)))

pub returns-clause-out_after : goal.returns-clause-out_after
returns-clause-out_after c =
    let s = c.args.state in
    let laid = account_spread c.requires refl refl in
    let list = c.in-Some.ensures.list in
    let n = length c.args.out.now in
    let went = rw c.of-desk.ensures at c.feed_lines-went.ensures in
    went.text_is ∙
    (λ i. written c.args.out.now 0 (feeding (list i) n (state (laid i) s.line) c.args.input.now).output)
