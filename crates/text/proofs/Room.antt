-- No answer is longer than the longest, so where there is room for the longest answer to each line, all of an input is taken.
-- Assumes nothing.
use Rattle.common.proofs.Words.{◌≡◌, refl, ap, ◌∙◌, true, List, [], ◌∷◌, ℕ, suc, ◌+◌, ◌-◌, ◌*◌, ◌≤◌, arith, eqb, length, take}
use Rattle.common.proofs.Words.{length-append, length-take, eqb-true, eqb-false}
use Rattle.std.specs.Prelude.{Option, Some, None}
use Rattle.lists.specs.Pad.{pad}
use Rattle.common.proofs.Cases.{by_test}
use Rattle.lists.proofs.{Pad.length_pad, Joined.joined_taken}
use Rattle.duedays.specs.DueDays.{list_allowed}
use Rattle.meter.specs.{Sharing.final_volumes, Sharing.volumes_of, Metering.pool_to}
use Rattle.meter.proofs.Sharing.{final_length}
use Rattle.account.specs.{declared.Account.Account, declared.Answer.Answer, Calls.standing_estimates, Calls.work, Refusals.refusal}
use Rattle.account.specs.{Outcomes.outcome, Outcomes.accepted, Outcomes.declined, Whole.whole}
use Rattle.intake.specs.declared.Call.TheVariants.{Opening, Reading, Missed, Absent, Exchange, Disconnection, Reconnection, Cancellation}
use Rattle.intake.specs.declared.Call.TheVariants.{Payment, StoppedCancellation}
use Rattle.intake.specs.declared.Call.{Call}
use Rattle.account.proofs.Ready.{misses_most}
use Rattle.frames.specs.{Digits.bytes, Digits.line_feed, Frames.parsed}
use Rattle.answers.specs.Answers.{volumes_bytes, answer_head, shown, answer_line, longest_answer}
use Rattle.frames.proofs.Digits.{length_digits}
use Rattle.answers.proofs.Writing.{length_head, length_amounts}
use Rattle.lines.specs.Feeding.{line_of, kept, line_ends, ended, Feeding, feeding}
use Rattle.lines.specs.{declared.State.State, Line.read_outcome, Line.parsed_outcome}
use Rattle.text.specs.Lines.{ends_in}
use Rattle.feeding.specs.Reached.{Reached}
use Rattle.lines.proofs.Feeding.{feed_ends, feed_keeps}
use Rattle.feeding.proofs.Reached.{reached_whole, reached_parsed}

-- At most six estimates and this period.
final_few : (a : Account) (reading : ℕ) → whole a ≡ true → length (final_volumes (standing_estimates a) (pool_to a.meter reading)) ≤ 7
final_few a reading w =
    let final = final_length (standing_estimates a) (pool_to a.meter reading) in
    omega (arith, final, length-take a.estimates.count a.estimates.periods, misses_most a w)

volumes_few : (holidays : List ℕ) (a : Account) (call : Call) → whole a ≡ true → length (work holidays a call).volumes ≤ 7
unfolding work
volumes_few holidays a (Opening day reading digits) w = omega arith
volumes_few holidays a (Reading day reading fuel) w = final_few a reading w
volumes_few holidays a (Missed day fuel) w = omega arith
volumes_few holidays a (Absent day fuel) w = omega arith
volumes_few holidays a (Exchange day old new digits) w = omega arith
volumes_few holidays a (Disconnection day reading fuel) w = final_few a reading w
volumes_few holidays a (Reconnection day reading digits) w = omega arith
volumes_few holidays a (Cancellation day reading fuel) w = final_few a reading w
volumes_few holidays a (Payment day yen) w = omega arith
volumes_few holidays a (StoppedCancellation day) w = omega arith

-- An answer with at most seven volumes.
line_short : (answer : Answer) (volumes : List ℕ) → answer.volumes ≡ volumes_of volumes → length volumes ≤ 7
    → length (answer_line answer) ≤ longest_answer
unfolding answer_line
line_short answer volumes e few =
    let long : length (pad 7 0 volumes) ≡ 7 = length_pad 0 7 volumes few in
    let middle : length (shown answer) ≡ 8 * length volumes =
    ap (λ v. length (volumes_bytes (take v.count v.volumes))) e ∙
    joined_taken (bytes 4) 8 (length_digits 16 8) (pad 7 0 volumes) (length volumes) (omega arith) in
    rw (length-append, length-append, length-append (answer_head answer) (shown answer), length_head answer, middle, length_amounts answer)
    (omega arith)

refusal_short : (a : Account) (number : ℕ) → length (answer_line (declined a number).answer) ≤ longest_answer
refusal_short a number = line_short (declined a number).answer [] refl (omega arith)

call_short : (holidays : List ℕ) (a : Account) (call : Call) → whole a ≡ true
    → length (answer_line (outcome holidays a call).answer) ≤ longest_answer
unfolding outcome
call_short holidays a call w =
    by_test (eqb (refusal holidays a call) 0)
    (λ e. rw e (line_short (accepted (work holidays a call)).answer (work holidays a call).volumes refl (volumes_few holidays a call w)))
    (λ e. rw e (refusal_short a (refusal holidays a call)))

answer_short : (holidays : List ℕ) (a : Account) (p : Option Call) → Reached holidays a
    → length (answer_line (parsed_outcome holidays a p).answer) ≤ longest_answer
answer_short holidays a p r = by_test (list_allowed holidays) (λ e. rw e (read p)) (λ e. rw e (refusal_short a 14))
  where
    read : (line : Option Call) → length (answer_line (read_outcome holidays a line).answer) ≤ longest_answer
    read (Some call) = call_short holidays a call (reached_whole holidays a r)
    read None = refusal_short a 40

-- All is taken, and room for one more answer is left.
pub record AllTaken (holidays : List ℕ) (room : ℕ) (s : State) (bytes : List ℕ) : Type 0 where
  pub taken_all : (feeding holidays room s bytes).taken ≡ length bytes
  pub left : length (feeding holidays room s bytes).output + longest_answer ≤ room

pub all_taken : (holidays bytes : List ℕ) (room : ℕ) (s : State) → Reached holidays s.account → longest_answer * (ends_in bytes + 1) ≤ room
    → AllTaken holidays room s bytes
unfolding feeding
all_taken holidays [] room s r h = record { taken_all = refl; left = omega arith }
all_taken holidays (c ∷ cs) room s r h =
    let line = answer_line (line_ends holidays s).answer in
    let short : length line ≤ longest_answer = answer_short holidays s.account (parsed (line_of s)) r in
    by_test (eqb c line_feed)
    (λ e.
    let k : longest_answer * (suc (ends_in cs) + 1) ≤ room = rw e at h in
    let rest =
    all_taken holidays cs (room - length line) (ended holidays s) (reached_parsed holidays s.account (parsed (line_of s)) r) (omega arith)
    in
    let is = feed_ends holidays room s c cs (eqb-true c line_feed e) (omega arith) in
    record {
      taken_all = ap (λ (f : Feeding). f.taken) is ∙ ap suc rest.taken_all;
      left = rw (is, length-append line (feeding holidays (room - length line) (ended holidays s) cs).output) (omega (arith, rest.left));
    })
    (λ e.
    let rest = all_taken holidays cs room (kept s c) r (rw e at h) in
    let is = feed_keeps holidays room s c cs (eqb-false c line_feed e) in
    record { taken_all = ap (λ (f : Feeding). f.taken) is ∙ ap suc rest.taken_all; left = rw is rest.left })
