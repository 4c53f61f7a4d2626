-- A line that ended is answered (`declining_on`); what is left waits (`declining_waits`).
use Rattle.common.proofs.Words.{◌≡◌, ◌+◌, ◌<◌, ap, ◌∙◌, arith, rules, List, ℕ, length, length-sets}
use Rattle.std.specs.List.{between as part}
use Rattle.account.specs.Outcomes.{declining}
use Rattle.frames.specs.Digits.{written}
use Rattle.answers.specs.Answers.{answer_line}
use Rattle.answers.proofs.Writing.{written_in_part}
use Rattle.lines.proofs.Going.{rest_long, found_end}
use Rattle.lines.proofs.Declining.{declining_waits, declining_on}
use Rattle.lines.proofs.decline_lines.Goals as goal
use Rattle.lines.proofs.decline_lines.Goals.{then-size-rest-via-then-size-rest, then-size-rest-via-else-size-rest+then-out-written-lt-LONGEST_ANSWER}

pub returns-then-size-rest : goal.returns-then-size-rest
returns-then-size-rest c =
    let l = c.loop-line in
    declining_waits l.invariant c.keep_front.ensures (λ more. elim c.then-size-rest.branch [
      | then-size-rest-via-then-size-rest w ↦ absurd (omega (arith, more, l.invariant.within, w.if-size-rest.true, rest_long c.args.input.now l.taken))
      | then-size-rest-via-else-size-rest+then-out-written-lt-LONGEST_ANSWER w ↦ w.if-out-written-lt-LONGEST_ANSWER.true
    ])

-- What was put is the answer, by the number that it was put for.
answered : (rest : List ℕ) {number : ℕ} {part : List ℕ} {count : ℕ}
    → (part ≡ written rest 0 (answer_line (declining number))) × (count ≡ length (answer_line (declining number))) → number ≡ 14
    → (part ≡ written rest 0 (answer_line (declining 14))) × (count ≡ length (answer_line (declining 14)))
answered rest put is = rw is at put

pub loop-line-preserved : goal.loop-line-preserved
loop-line-preserved c =
    let l = c.loop-line in
    let size = c.line_length-size.result in
    let found = c.line_length-size.ensures in
    let input = c.args.input.now in
    let ends : size < length (part l.taken (length input) input) = omega (arith, found.within, c.if-size-rest.false) in
    let ended = found_end {input = input} {from = l.taken} {line₀ = l.line} {end = size} l.invariant.within ends (found.ends ends) found.none_before in
    let more : l.taken + size < length input = omega (arith, ends, rest_long input l.taken) in
    let wide = c.if-out-written-lt-LONGEST_ANSWER.false in
    let told = c.put_refusal-written.ensures in
    let said = answered _ (told.out_after, told.value) (search rules) in
    let line = answer_line (declining 14) in
    let out_is = written_in_part l.out l.written line (omega (arith, wide, said.1, told.upper_bound)) said.0 in
    let out_long = ap length out_is ∙ length-sets l.out l.written line in
    let on : l.taken + (size + 1) ≡ l.taken + size + 1 = omega arith in
    rw on
    (declining_on l.invariant {kept = ended.0} ended.1 more wide out_long out_is (omega (arith, said.1)) (omega (arith, told.upper_bound)) (search rules))
