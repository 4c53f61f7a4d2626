-- What a plan that 1 to 11 let pass keeps to. Assumes nothing.
use Rattle.std.specs.Prelude.{IfSome}
use mathlib.Core.Path.{◌≡◌, refl}
use mathlib.Core.Bool.{Bool, true, false}
use mathlib.Core.List.{List, [], ◌∷◌, ◌++◌}
use Prim.Native.Nat.{ℕ, ◌+◌, ◌≤◌}
use native.Mathlib.Omega.{arith}
use lib.ListN.{length, length-append}
use lib.Seq.{length-take-le}
use Rattle.lists.specs.Every.{Every}
use Rattle.tariff.specs.declared.Fuel.{Fuel}
use Rattle.tariff.specs.Price.{price_of}
use Rattle.tariff.proofs.Bounds.{price_most}
use Rattle.meter.specs.{declared.Estimate.Estimate, declared.Estimates.Estimates, Sharing.standing}
use Rattle.ledger.specs.{Limits.last_call_day, Posting.NetBounds, Entries.EntryBounds}
use Rattle.intake.specs.declared.Call.TheVariants.{Opening, Reading, Missed, Absent, Exchange, Disconnection, Reconnection, Cancellation}
use Rattle.intake.specs.declared.Call.TheVariants.{Payment, StoppedCancellation}
use Rattle.intake.specs.{declared.Head.Head, declared.Call.Call, Limits.most_misses, Limits.most_volume, Limits.most_charge}
use Rattle.intake.specs.{Statuses.is_stopped, Statuses.start_of}
use Rattle.intake.specs.{Periods.closed_period, Refusals.reading_refusal, Refusals.miss_refusal, Refusals.first_refusal}
use Rattle.intake.specs.Heads.{HeadBounds, EstimateBounds}
use Rattle.plan.specs.Plans.{changed, Room, miss_plan, read_plan, passed_plan}
use Rattle.plan.specs.declared.Then.{Then}
use Rattle.plan.specs.declared.Then.TheVariants.{Goes, Stops, Ends}
use Rattle.intake.proofs.Passed.{begun, miss_passed, payment_passed}
use Rattle.closing.specs.Closing.{read_net}
use Rattle.closing.proofs.Ready.{reading_ready, read_net_bounds, miss_ready}

module _ (h : Head) (w : HeadBounds h) where
  pub missed_most : (day : ℕ) (fuel : Fuel) (volume : ℕ) → volume ≤ most_volume → miss_refusal h day fuel ≡ 0
      → price_of (closed_period (start_of h.status) day fuel) volume ≤ most_charge
  missed_most day fuel volume most e =
      price_most (closed_period (start_of h.status) day fuel) volume ((miss_ready h day fuel w e).priced volume most)

  miss_within : (day : ℕ) (fuel : Fuel) (absent : Bool) (volume : ℕ) → volume ≤ most_volume → miss_refusal h day fuel ≡ 0
      → IfSome (miss_plan h day fuel absent volume).entry EntryBounds
  miss_within day fuel absent volume most e = omega (arith, (miss_ready h day fuel w e).day_most, missed_most day fuel volume most e)

  module _ (estimates : List Estimate) (six : length estimates ≤ most_misses) (within : Every EstimateBounds estimates) where
    reading_within : (day reading : ℕ) (fuel : Fuel) → reading_refusal h day reading fuel ≡ 0
        → (day ≤ last_call_day) × NetBounds (read_net h estimates day reading fuel)
    reading_within day reading fuel e =
        let ready = reading_ready h day reading fuel w e in
        (ready.day_most, read_net_bounds h estimates day reading fuel ready six within)

    read_within : (day reading : ℕ) (fuel : Fuel) (next : Then) → reading_refusal h day reading fuel ≡ 0
        → IfSome (read_plan h estimates day reading fuel next).entry EntryBounds
    read_within day reading fuel next e =
        let known = reading_within day reading fuel e in
        record { day_most = known.0; money_most = known.1.1; charge_most = known.1.0 }

    pub entry_within : (call : Call) → first_refusal h call ≡ 0 → IfSome (passed_plan h estimates call).entry EntryBounds
    unfolding first_refusal passed_plan
    entry_within (Opening _ _ _) e = tt
    entry_within (Reading day reading fuel) e = read_within day reading fuel Goes e
    entry_within (Missed day fuel) e = miss_within day fuel false h.meter.basis w.basis_most e
    entry_within (Absent day fuel) e = miss_within day fuel true 0 (omega arith) e
    entry_within (Exchange _ _ _ _) e = tt
    entry_within (Disconnection day reading fuel) e = read_within day reading fuel Stops e
    entry_within (Reconnection _ _ _) e = tt
    entry_within (Cancellation day reading fuel) e = read_within day reading fuel Ends e
    entry_within (Payment day yen) e = omega (arith, payment_passed h day yen e)
    entry_within (StoppedCancellation day) e = omega (arith, begun (is_stopped h.status) h.latest day 0 e)

-- One more estimate has a place, and the head counts those that stand.
module _ (h : Head) (estimates : List Estimate) where
  pub change_room : (call : Call) → first_refusal h call ≡ 0 → Room (passed_plan h estimates call).change h.standing
  unfolding first_refusal passed_plan
  change_room (Opening _ _ _) e = omega arith
  change_room (Reading _ _ _) e = omega arith
  change_room (Missed day fuel) e = omega (arith, (miss_passed h day fuel e).misses_most)
  change_room (Absent day fuel) e = omega (arith, (miss_passed h day fuel e).misses_most)
  change_room (Exchange _ _ _ _) e = omega arith
  change_room (Disconnection _ _ _) e = omega arith
  change_room (Reconnection _ _ _) e = omega arith
  change_room (Cancellation _ _ _) e = omega arith
  change_room (Payment _ _) e = omega arith
  change_room (StoppedCancellation _) e = omega arith

module _ (h : Head) (estimates : Estimates)
    (is : estimates.count ≡ h.standing) (long : estimates.count ≤ length estimates.periods) where
  one_more : (estimate : Estimate) → length (standing estimates ++ (estimate ∷ [])) ≡ h.standing + 1
  one_more estimate = rw (length-append, length-take-le estimates.count estimates.periods, is)

  pub counted : (call : Call) → let p = passed_plan h (standing estimates) call in (changed p estimates).count ≡ p.head.standing
  unfolding passed_plan
  counted (Opening _ _ _) = is
  counted (Reading _ _ _) = refl
  counted (Missed _ _) = one_more _
  counted (Absent _ _) = one_more _
  counted (Exchange _ _ _ _) = is
  counted (Disconnection _ _ _) = refl
  counted (Reconnection _ _ _) = is
  counted (Cancellation _ _ _) = refl
  counted (Payment _ _) = is
  counted (StoppedCancellation _) = is
