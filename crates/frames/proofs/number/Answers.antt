-- Eight digits fit 64 bits (`cap_within`). What is read is below 2 ^ 32 where all characters are digits, and nowhere else.
use Rattle.common.proofs.Words.{ap, ◌∙◌, arith, add-one, take_all}
use Rattle.frames.specs.Digits.{value_or, read_of}
use Rattle.frames.proofs.Digits.{cap_within, cap_next, read_suc, value_most, number_held, held_bound}
use Rattle.frames.proofs.number.Goals as goal

pub overflow_mul-n : goal.overflow_mul-n
overflow_mul-n c = omega (arith, cap_within c.loop-digit.n c.loop-digit.digit-index c.loop-digit.invariant.most (omega arith))

pub overflow_add-n : goal.overflow_add-n
overflow_add-n c =
    let fits = cap_within c.loop-digit.n c.loop-digit.digit-index c.loop-digit.invariant.most (omega arith) in
    omega (arith, fits, c.value.ensures, value_most)

pub loop-digit-preserved : goal.loop-digit-preserved
loop-digit-preserved c =
    let i = c.loop-digit.digit-index in
    record {
      read =
          rw (add-one i, read_suc c.args.digits.now i c.loop-digit-test.true, ← c.value.ensures, ← c.loop-digit.invariant.read);
      most = rw (add-one i, c.value.ensures) (cap_next c.loop-digit.n (value_or _) i c.loop-digit.invariant.most (value_most _));
    }

pub returns-clause-value : goal.returns-clause-value
returns-clause-value c =
    let read = c.loop-digit.invariant.read ∙ ap read_of (take_all c.loop-digit.digit-index c.args.digits.now c.loop-digit-test.false) in
    c.ok.ensures.value ∙ number_held c.args.digits.now c.try_from.result (rw read at c.try_from.ensures) c.requires

pub returns-clause-bound : goal.returns-clause-bound
returns-clause-bound c =
    let read = c.loop-digit.invariant.read ∙ ap read_of (take_all c.loop-digit.digit-index c.args.digits.now c.loop-digit-test.false) in
    rw c.ok.ensures.value (held_bound c.args.digits.now c.try_from.result (rw read at c.try_from.ensures))
