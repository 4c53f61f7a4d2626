-- A reading is planned as its call, whichever of the three it is.
use Rattle.std.proofs.Common.{rules}
use Rattle.intake.specs.Refusals.{first_refusal}
use Rattle.plan.specs.Plans.{passed_plan}
use Rattle.plan.proofs.plans.plan_with.Goals as goal
use Rattle.plan.proofs.plans.plan_with.Goals.{in-Reading, in-Disconnection, in-Cancellation}

pub returns-clause-value : goal.returns-clause-value
unfolding first_refusal passed_plan
returns-clause-value c =
    elim c.match-call.branch [ in-Reading w ↦ search rules | in-Disconnection w ↦ search rules | in-Cancellation w ↦ search rules ]
