-- The plan is the call's (`Planned`); refused, or entered and refused, or entered, what comes of it is the call's outcome.
use Rattle.common.proofs.Words.{sym}
use Rattle.meter.specs.Sharing.{standing}
use Rattle.plan.proofs.Bounds.{entry_within}
use Rattle.feeding.proofs.Entering.{lain_estimates, lain_bounds, lain_standing, lain_within, first_comes, last_comes, entered_comes, shown_first}
use Rattle.feeding.proofs.work_call.Goals as goal

pub standing-requires : goal.standing-requires
standing-requires c = (lain_estimates c.requires).few

pub invariant_of-billing-clause-head_bounds : goal.invariant_of-billing-clause-head_bounds
invariant_of-billing-clause-head_bounds c = lain_bounds c.requires

pub invariant_of-billing-clause-standing_bounds : goal.invariant_of-billing-clause-standing_bounds
invariant_of-billing-clause-standing_bounds c = rw c.standing.ensures (lain_standing c.requires)

pub returns-in_err-plan : goal.returns-in_err-plan
returns-in_err-plan c =
    let planned = rw c.standing.ensures at c.in_err-plan.ensures.value in
    first_comes c.requires c.args.holidays.allowed c.args.call _ _ planned.tells c.from_residual.result c.from_residual.ensures.1

pub enter_plan-requires-clause-within : goal.enter_plan-requires-clause-within
enter_plan-requires-clause-within c = lain_within c.requires

pub enter_plan-requires-clause-bounds : goal.enter_plan-requires-clause-bounds
enter_plan-requires-clause-bounds c =
    let planned = rw c.standing.ensures at c.in_ok-plan.ensures.value in
    let stand = standing c.args.estimates.now in
    let bounds = lain_standing c.requires in
    rw planned.plans
    (entry_within c.args.head (lain_bounds c.requires) stand bounds.few bounds.within c.args.call (sym planned.tells))

pub returns-in_err-interest : goal.returns-in_err-interest
returns-in_err-interest c =
    let planned = rw c.standing.ensures at c.in_ok-plan.ensures.value in
    let enters = rw planned.plans at c.in_err-interest.ensures in
    last_comes c.requires c.args.holidays.allowed c.args.call (sym planned.tells) _ _ _ enters
    c.from_residual-in_err-interest.result c.from_residual-in_err-interest.ensures.1

pub returns : goal.returns
returns c =
    let planned = rw c.standing.ensures at c.in_ok-plan.ensures.value in
    let lent = rw c.standing.ensures at c.plan_with.ensures.volumes_after in
    let enters = rw planned.plans at c.in_ok-interest.ensures in
    let shown = shown_first c.args.head c.args.estimates.now c.args.call (sym planned.tells) _ _ lent in
    rw planned.plans
    (entered_comes c.requires c.args.holidays.allowed c.args.call (sym planned.tells) _ _ _ shown enters)
