-- The plan is the call's, by what `plan_with` ensures on the account's own head; past 1 to 11 it comes to the call's work
-- (`plan_works`), and what is carried out is then the call's outcome.
use Rattle.common.proofs.Words.{◌≡◌, sym, ap, ◌∙◌, true, ◌≤◌, arith, length, replicate}
use Rattle.common.specs.Refusals.{number_of}
use Rattle.common.proofs.Refusals.{number_some}
use Rattle.lists.proofs.Pad.{length_take_most}
use Rattle.meter.specs.{declared.Volumes.Volumes, Sharing.volumes_of, Sharing.filled_with}
use Rattle.intake.specs.{Limits.most_misses}
use Rattle.plan.specs.{declared.Plan.Plan, Plans.passed_volumes}
use Rattle.plan.proofs.Planning.{passed_volumes_lem, passed_count}
use Rattle.plan.proofs.Bounds.{entry_within, change_room}
use Rattle.account.specs.{declared.Account.Account, Calls.head_of, Calls.standing_estimates, Whole.whole}
use Rattle.account.proofs.Ready.{head_bounds, misses_most, estimates_within}
use Rattle.account.proofs.{Concluding.refusal_first, Concluding.declined_as, Concluding.passed_as, Working.plan_works, Working.zeros_filled}
use Rattle.account.proofs.whole.WholeAccount.accept.Goals as goal

few : (a : Account) → whole a ≡ true → length (standing_estimates a) ≤ most_misses
few a w = omega (arith, length_take_most a.estimates.count a.estimates.periods, misses_most a w)

pub returns-in_err-plan : goal.returns-in_err-plan
returns-in_err-plan c =
    let is = rw (c.billing.ensures.head, c.billing.ensures.standing) at c.in_err-plan.ensures.value in
    let refusal = c.in_err-plan.field-0.0 in
    let first =
    refusal_first c.args.holidays.days.now c.args.self.now.account c.args.call c.args.holidays.allowed c.args.self.now.is_whole (number_of refusal) is.tells
    (number_some refusal)
    in
    declined_as _ _ refusal c.from_residual.result c.from_residual.ensures.1 first

pub carry_out-requires-clause-room : goal.carry_out-requires-clause-room
carry_out-requires-clause-room c =
    let a = c.args.self.now.account in
    let is = rw (c.billing.ensures.head, c.billing.ensures.standing) at c.in_ok-plan.ensures.value in
    rw is.plans (change_room (head_of a) (standing_estimates a) c.args.call (sym is.tells))

pub carry_out-requires-clause-bounds : goal.carry_out-requires-clause-bounds
carry_out-requires-clause-bounds c =
    let a = c.args.self.now.account in
    let w = c.args.self.now.is_whole in
    let is = rw (c.billing.ensures.head, c.billing.ensures.standing) at c.in_ok-plan.ensures.value in
    rw is.plans
    (entry_within (head_of a) (head_bounds a w) (standing_estimates a) (few a w) (estimates_within a w) c.args.call (sym is.tells))

pub returns : goal.returns
returns c =
    let a = c.args.self.now.account in
    let call = c.args.call in
    let holidays = c.args.holidays.days.now in
    let h = head_of a in
    let stand = standing_estimates a in
    let is = rw (c.billing.ensures.head, c.billing.ensures.standing) at c.in_ok-plan.ensures.value in
    let none = sym is.tells in
    let final = passed_volumes h stand call in
    let count = ap (λ (x : Plan). x.count) is.plans ∙ passed_count h stand call in
    let lent = rw (c.billing.ensures.head, c.billing.ensures.standing) at c.plan_with.ensures.volumes_after in
    let shown : c.plan_with.new.volumes ≡ filled_with final (replicate 7 0) = rw (passed_volumes_lem h stand call none) at lent in
    let volumes : ◌≡◌ {A = Volumes} (record { count = c.in_ok-plan.plan.count; volumes = c.plan_with.new.volumes }) (volumes_of final) =
    (λ i. record { count = count i; volumes = shown i }) ∙ zeros_filled final
    in
    passed_as holidays a call c.args.holidays.allowed c.args.self.now.is_whole none c.carry_out.result
    (rw (← plan_works holidays a call, ← is.plans) (c.carry_out.ensures final volumes))
