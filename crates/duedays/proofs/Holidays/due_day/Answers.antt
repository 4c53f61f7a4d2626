-- Where the loop ends, `due` isn't listed, so it is the due day (`due_only`).
use Rattle.std.proofs.Common.{◌≡◌, ℕ, ◌+◌, ◌<◌, length, get_or, ltb, sym, ◌∙◌, rules, arith}
use Rattle.std.proofs.lemmas.List.Sorted.{IsPartitionPoint-from_clause}
use Rattle.common.proofs.Words.{add-zero, length-take, length-drop}
use Rattle.common.proofs.Cases.{by_order}
use Rattle.duedays.specs.Limits.{term}
use Rattle.duedays.proofs.Lists.{allowed, parted, first_from, listed_at, behind_place, from_next, from_open}
use Rattle.duedays.proofs.DueDays.{due_only}
use Rattle.duedays.proofs.Holidays.due_day.Goals as goal

pub overflow_add-due-in-loop-listed : goal.overflow_add-due-in-loop-listed
overflow_add-due-in-loop-listed c = omega (arith, (allowed c.args.self.allowed).few)

pub loop-listed-init : goal.loop-listed-init
loop-listed-init c =
    let holidays = c.args.self.days.now in
    let due = c.args.day + term in
    let found = c.partition_point-at in
    let parts = IsPartitionPoint-from_clause (λ listed. ltb listed due) holidays found.result
    found.ensures.partitioned (parted (allowed c.args.self.allowed) due) (λ a r f k. search rules) in
    record {
      from = omega arith;
      most = omega arith;
      place = rw (add-zero found.result) (first_from found.ensures.bound parts);
      passes = λ d low high. absurd (omega arith);
    }

pub loop-listed-preserved : goal.loop-listed-preserved
loop-listed-preserved c =
    let holidays = c.args.self.days.now in
    let kept = c.loop-listed.invariant in
    let at = c.partition_point-at.result in
    let i = c.loop-listed.listed-index in
    let here : at + i < length holidays = omega (arith, length-take {A = ℕ}, length-drop {A = ℕ}) in
    let is : get_or holidays (at + i) 0 ≡ c.loop-listed.due = sym (behind_place holidays at _ i (omega (arith, length-take {A = ℕ}))) ∙ c.if-listed-due.false in
    let next : at + (i + 1) ≡ at + i + 1 = omega arith in
    record {
      from = omega arith;
      most = omega arith;
      place = rw next (from_next (allowed c.args.self.allowed) kept.place here is);
      passes =
          λ d low high. by_order d c.loop-listed.due (λ below. kept.passes d low below)
          (λ same. let day : d ≡ get_or holidays (at + i) 0 = omega arith in rw day (listed_at holidays (at + i) here));
    }

pub returns-after-loop-listed : goal.returns-after-loop-listed
returns-after-loop-listed c =
    let kept = c.loop-listed.invariant in
    due_only c.args.self.days.now c.args.day c.loop-listed.due kept.from
    (from_open (allowed c.args.self.allowed) kept.place
    (λ h e. absurd (omega (arith, length-take {A = ℕ}, length-drop {A = ℕ})))) kept.passes

pub returns-then-listed-due : goal.returns-then-listed-due
returns-then-listed-due c =
    let kept = c.loop-listed.invariant in
    let is = behind_place c.args.self.days.now c.partition_point-at.result _ c.loop-listed.listed-index (omega (arith, length-take {A = ℕ})) in
    due_only c.args.self.days.now c.args.day c.loop-listed.due kept.from
    (from_open (allowed c.args.self.allowed) kept.place (λ h e. c.if-listed-due.true (is ∙ e))) kept.passes
