-- The input is worked, and then the notices of its account are put.
use Rattle.common.proofs.Words.{◌≡◌, ap, length, le-leb}
use Rattle.text.specs.Output.{open_notices, notice, longest_input}
use Rattle.text.specs.declared.Billed.{Billed}
use Rattle.text.proofs.write_notice.Goals as goal
use Rattle.text.proofs.write_notice.Goals.{After-work_input-worked}

notice_is : (c : After-work_input-worked)
    → open_notices c.work_input-worked.result.account ≡ notice c.args.holidays.now c.args.input.now
unfolding notice
notice_is c = ap (λ (r : Billed). open_notices r.account) c.work_input-worked.ensures.value

pub returns-clause-value : goal.returns-clause-value
returns-clause-value c =
    let is = notice_is (goal.at.returns-clause-value c).After-work_input-worked in
    rw (le-leb (length c.args.input.now) longest_input c.if-input-gt-LONGEST_INPUT.false, ← is) c.put_notices.ensures.value

pub returns-clause-out_after : goal.returns-clause-out_after
returns-clause-out_after c =
    let is = notice_is (goal.at.returns-clause-out_after c).After-work_input-worked in
    rw (le-leb (length c.args.input.now) longest_input c.if-input-gt-LONGEST_INPUT.false, ← is) c.put_notices.ensures.out_after
