-- What is worked of a line comes to the line's outcome (`Turned`); so, its answer written, the run goes on.
use Rattle.common.proofs.Words.{arith, refl, sym, ap, ◌∙◌, rules}
use Rattle.lines.specs.Going.{read_as}
use Rattle.feeding.proofs.Running.{Turned, none_turned, call_turned, desk_of, running_ended, running_waits}
use Rattle.feeding.proofs.Running.{running_changed, running_kept, running_refused}
use Rattle.feeding.proofs.feed_lines.Goals as goal
use Rattle.feeding.proofs.feed_lines.Goals.{in-NoFrame, in-Frame, else-loop-taken-test, then-loop-taken-test+in-Waits, In-Ok, In-Err}

accepted : (c : In-Ok)
    → Turned c.args.holidays.days.now
    (desk_of c.loop-taken.head c.loop-taken.desk.estimates c.loop-taken.desk.items c.loop-taken.desk.line)
    c.next_line-found.result.next c.next_line-found.new.line c.match-found.worked c.match-found.desk c.match-found.volumes
accepted c = elim c.match-found.branch [
  | in-NoFrame w ↦ absurd (let never = sym c.in-Ok.is ∙ w.worked-is in cc)
  | in-Frame w ↦
      let comes = rw (w.from.ensures, ← w.worked-is, ← w.volumes-is) at w.work_call-worked.ensures in
      call_turned c.args.holidays.allowed w.in-Frame.frame w.in-Frame.is _ _ w.desk-is comes
]

refused : (c : In-Err)
    → Turned c.args.holidays.days.now
    (desk_of c.loop-taken.head c.loop-taken.desk.estimates c.loop-taken.desk.items c.loop-taken.desk.line)
    c.next_line-found.result.next c.next_line-found.new.line c.match-found.worked c.match-found.desk c.match-found.volumes
refused c = elim c.match-found.branch [
  | in-NoFrame w ↦ none_turned c.args.holidays.allowed w.in-NoFrame.is w.worked-is _ w.desk-is
  | in-Frame w ↦
      let comes = rw (w.from.ensures, ← w.worked-is, ← w.volumes-is) at w.work_call-worked.ensures in
      call_turned c.args.holidays.allowed w.in-Frame.frame w.in-Frame.is _ _ w.desk-is comes
]

pub loop-taken-preserved-then-head-desk : goal.loop-taken-preserved-then-head-desk
loop-taken-preserved-then-head-desk c =
    let t = accepted (goal.at.loop-taken-preserved-then-head-desk c).In-Ok in
    let put = c.put_line-written.ensures in
    rw t.line_is
    (running_changed c.args.desk.now c.loop-taken.invariant c.next_line-found.ensures _ _ put.out_after _ put.value put.upper_bound
    t c.in-Ok.is refl c.head_after-head.ensures c.changed-desk.ensures)

pub loop-taken-preserved-else-head-desk : goal.loop-taken-preserved-else-head-desk
loop-taken-preserved-else-head-desk c =
    let t = accepted (goal.at.loop-taken-preserved-else-head-desk c).In-Ok in
    let put = c.put_line-written.ensures in
    rw t.line_is
    (running_kept c.args.desk.now c.loop-taken.invariant c.next_line-found.ensures _ _ put.out_after _ put.value put.upper_bound
    t c.in-Ok.is refl c.head_after-head.ensures (omega arith))

pub loop-taken-preserved : goal.loop-taken-preserved
loop-taken-preserved c =
    let t = refused (goal.at.loop-taken-preserved c).In-Err in
    let put = rw c.number.ensures at c.put_refusal-written.ensures in
    rw t.line_is
    (running_refused c.args.desk.now c.loop-taken.invariant c.next_line-found.ensures _ _ put.out_after _ put.value put.upper_bound
    c.in-Err.refusal t c.in-Err.is (search rules) refl)

pub returns : goal.returns
returns c = elim c.loop-taken-test.branch [
  | else-loop-taken-test w ↦
      rw (w.desk-is, w.taken-is) (running_ended c.args.desk.now c.loop-taken.invariant w.loop-taken-test.false)
  | then-loop-taken-test+in-Waits w ↦
      rw (w.desk-is, w.taken-is)
      (running_waits c.args.desk.now c.loop-taken.invariant w.next_line-found.ensures (ap read_as w.in-Waits.is))
]
