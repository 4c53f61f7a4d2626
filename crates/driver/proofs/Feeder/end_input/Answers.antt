-- What was made lies in the space from the front, and is printed; there is room for a line, so what was seen ends.
use Rattle.std.proofs.Common.{◌≡◌, sym, ap, subst, arith, take}
use Rattle.answers.specs.Answers.{longest_answer}
use Rattle.lines.specs.{declared.Fed.Fed, Feeding.finishing}
use Rattle.text.specs.Pieces.{AtEnd}
use Rattle.text.proofs.{Pieces.follows_end, Pieces.behind_ready}
use Rattle.driver.proofs.Runs.{front_is, end_prints}
use Rattle.driver.proofs.Feeder.end_input.Goals as goal

pub finish-fed-requires : goal.finish-fed-requires
finish-fed-requires g c = behind_ready c.requires

pub returns-clause-at_end : goal.returns-clause-at_end
returns-clause-at_end g c = λ b.
    subst (AtEnd c.args.self.now.holidays.now b.seen) (sym (ap (λ (f : Fed). f.state) c.finish-fed.ensures.value))
    (follows_end c.args.self.now.holidays.now b.seen c.args.state _ (omega arith) b.follows)

pub returns-clause-prints : goal.returns-clause-prints
returns-clause-prints g c = λ b.
    let made = c.finish-fed.ensures in
    let text : take c.finish-fed.result.written c.finish-fed.new.out ≡ (finishing c.args.self.now.holidays.now longest_answer c.args.state).output =
    front_is (record { result_is = made.value; space_is = made.out_after; most = made.written_in_bounds }) in
    end_prints b.follows longest_answer (omega arith) (rw text at c.in_ok-print.ensures.printed)
