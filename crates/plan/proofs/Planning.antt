-- How many volumes a plan says, and what a call that passes shows. Assumes nothing.
use mathlib.Core.Path.{◌≡◌, refl, ap}
use mathlib.Core.List.{List}
use lib.ListN.{length}
use Rattle.std.specs.Prelude.{Result, Ok, Err}
use Rattle.common.specs.{declared.Refusal.Refusal, Refusals.told}
use Rattle.common.proofs.Refusals.{number_some}
use Rattle.common.proofs.Words.{arith}
use Rattle.meter.specs.declared.Estimate.{Estimate}
use Rattle.intake.specs.declared.Call.TheVariants.{Opening, Reading, Missed, Absent, Exchange, Disconnection, Reconnection, Cancellation}
use Rattle.intake.specs.declared.Call.TheVariants.{Payment, StoppedCancellation}
use Rattle.intake.specs.{declared.Head.Head, declared.Call.Call, Refusals.first_refusal}
use Rattle.plan.specs.declared.Plan.{Plan}
use Rattle.plan.specs.Plans.{Planned, passed_plan, passed_volumes, planned_volumes}

module _ (h : Head) (estimates : List Estimate) where
  pub passed_count : (call : Call) → (passed_plan h estimates call).count ≡ length (passed_volumes h estimates call)
  unfolding passed_plan passed_volumes
  passed_count (Opening _ _ _) = refl
  passed_count (Reading _ _ _) = refl
  passed_count (Missed _ _) = refl
  passed_count (Absent _ _) = refl
  passed_count (Exchange _ _ _ _) = refl
  passed_count (Disconnection _ _ _) = refl
  passed_count (Reconnection _ _ _) = refl
  passed_count (Cancellation _ _ _) = refl
  passed_count (Payment _ _) = refl
  passed_count (StoppedCancellation _) = refl

  pub passed_volumes_lem : (call : Call) → first_refusal h call ≡ 0 → planned_volumes h estimates call ≡ passed_volumes h estimates call
  unfolding planned_volumes
  passed_volumes_lem call e = rw e

  -- What a call comes to tells the number by which it is declined, and is its plan where it passes.
  module _ (call : Call) where
    pub planned_number : {r : Result Plan Refusal} → Planned h estimates call r → told r ≡ first_refusal h call
    planned_number p = p.tells

    pub passed_plan_lem : first_refusal h call ≡ 0 → (r : Result Plan Refusal) → Planned h estimates call r
        → r ≡ Ok (passed_plan h estimates call)
    passed_plan_lem e (Ok plan) p = ap Ok p.plans
    passed_plan_lem e (Err refusal) p = let some = number_some refusal in absurd (omega (arith, some, p.tells, e))
