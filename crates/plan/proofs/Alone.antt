-- Calls that look at no estimate, and readings and misses by what their calls have in common. Assumes nothing.
use mathlib.Core.Path.{◌≡◌, refl, sym, ap, ◌∙◌}
use mathlib.Core.Bool.{Bool, true, false, cond, false≢true}
use mathlib.Core.List.{List, [], ◌∷◌}
use Prim.Native.Nat.{ℕ}
use lib.Dec.{eqb}
use denote.Enum.Declared.{tag_of}
use types.Run.{OneOf, miss}
use Rattle.meter.specs.declared.Estimate.{Estimate}
use Rattle.intake.specs.declared.Call.TheVariants.{Opening, Reading, Missed, Absent, Exchange, Disconnection, Reconnection, Cancellation}
use Rattle.intake.specs.declared.Call.TheVariants.{Payment, StoppedCancellation}
use Rattle.intake.specs.{declared.Head.Head, declared.Call.Call, Refusals.miss_refusal, Refusals.first_refusal}
use Rattle.plan.specs.Plans.{PlannedAs, passed_plan, passed_volumes, Planned, planned_volumes, miss_plan, missed_volume}
use Rattle.plan.specs.Plans.{ReadPlanned, read_volumes, no_reading, reading_in, no_miss, miss_in, misses, reads}
use Rattle.meter.specs.Sharing.{filled_with}
use Rattle.intake.specs.contracts.Call.{the_type}

-- A call that is no reading plans the same over any estimates, and shows no volume.
module _ (h : Head) (estimates : List Estimate) where
  alone : (call : Call) → reads call ≡ false
      → (passed_plan h estimates call ≡ passed_plan h [] call) × (passed_volumes h estimates call ≡ [])
  unfolding passed_plan passed_volumes
  alone (Opening _ _ _) e = (refl, refl)
  alone (Reading _ _ _) e = absurd (false≢true (sym e))
  alone (Missed _ _) e = (refl, refl)
  alone (Absent _ _) e = (refl, refl)
  alone (Exchange _ _ _ _) e = (refl, refl)
  alone (Disconnection _ _ _) e = absurd (false≢true (sym e))
  alone (Reconnection _ _ _) e = (refl, refl)
  alone (Cancellation _ _ _) e = absurd (false≢true (sym e))
  alone (Payment _ _) e = (refl, refl)
  alone (StoppedCancellation _) e = (refl, refl)

  none_shown : (call : Call) → reads call ≡ false → planned_volumes h estimates call ≡ []
  unfolding planned_volumes
  none_shown call e = rw (alone call e).1 (go (eqb (first_refusal h call) 0))
    where
      go : (b : Bool) → ◌≡◌ {A = List ℕ} (cond b [] []) []
      go true = refl
      go false = refl

  pub none_filled : (call : Call) → reads call ≡ false → (before : List ℕ) → before ≡ filled_with (planned_volumes h estimates call) before
  none_filled call e before = rw (none_shown call e)

module _ (h : Head) (estimates : List Estimate) where
  pub plan_alone : (call : Call) → (reads call ≡ true → estimates ≡ []) → Planned h [] call ≡ Planned h estimates call
  plan_alone call none = ap (PlannedAs (first_refusal h call)) (go (reads call) refl)
    where
      go : (b : Bool) → reads call ≡ b → passed_plan h [] call ≡ passed_plan h estimates call
      go true e = rw (none e)
      go false e = sym (alone h estimates call e).0

  pub volumes_alone : (call : Call) → (reads call ≡ true → estimates ≡ []) → planned_volumes h [] call ≡ planned_volumes h estimates call
  volumes_alone call none = go (reads call) refl
    where
      go : (b : Bool) → reads call ≡ b → planned_volumes h [] call ≡ planned_volumes h estimates call
      go true e = rw (none e)
      go false e = none_shown h [] call e ∙ sym (none_shown h estimates call e)

-- The planned readings and misses are the planned calls.
module _ (h : Head) (estimates : List Estimate) where
  pub reading_planned : (call : Call) → reads call ≡ true → let r = reading_in call in
      (ReadPlanned h estimates r ≡ Planned h estimates call) × (read_volumes h estimates r ≡ planned_volumes h estimates call)
  unfolding first_refusal planned_volumes passed_plan passed_volumes
  reading_planned (Opening _ _ _) e = absurd (false≢true e)
  reading_planned (Reading _ _ _) e = (refl, refl)
  reading_planned (Missed _ _) e = absurd (false≢true e)
  reading_planned (Absent _ _) e = absurd (false≢true e)
  reading_planned (Exchange _ _ _ _) e = absurd (false≢true e)
  reading_planned (Disconnection _ _ _) e = (refl, refl)
  reading_planned (Reconnection _ _ _) e = absurd (false≢true e)
  reading_planned (Cancellation _ _ _) e = (refl, refl)
  reading_planned (Payment _ _) e = absurd (false≢true e)
  reading_planned (StoppedCancellation _) e = absurd (false≢true e)

  pub miss_planned : (call : Call) → misses call ≡ true → let m = miss_in call in
      let passed = miss_plan h m.day m.fuel m.absent (missed_volume h m.absent) in
      PlannedAs (miss_refusal h m.day m.fuel) passed ≡ Planned h estimates call
  unfolding first_refusal passed_plan
  miss_planned (Opening _ _ _) e = absurd (false≢true e)
  miss_planned (Reading _ _ _) e = absurd (false≢true e)
  miss_planned (Missed _ _) e = refl
  miss_planned (Absent _ _) e = refl
  miss_planned (Exchange _ _ _ _) e = absurd (false≢true e)
  miss_planned (Disconnection _ _ _) e = absurd (false≢true e)
  miss_planned (Reconnection _ _ _) e = absurd (false≢true e)
  miss_planned (Cancellation _ _ _) e = absurd (false≢true e)
  miss_planned (Payment _ _) e = absurd (false≢true e)
  miss_planned (StoppedCancellation _) e = absurd (false≢true e)

-- The last arm of a match: what the calls are that come there.
abbrev unread : List ℕ
unread = 0 ∷ 2 ∷ 3 ∷ 4 ∷ 6 ∷ 8 ∷ 9 ∷ []

pub no_reading_lem : (call : Call) → OneOf unread (tag_of the_type call) → (reads call ≡ false) × (reading_in call ≡ no_reading)
no_reading_lem (Opening _ _ _) other = (refl, refl)
no_reading_lem (Reading _ _ _) other = absurd (miss unread 1 tt other)
no_reading_lem (Missed _ _) other = (refl, refl)
no_reading_lem (Absent _ _) other = (refl, refl)
no_reading_lem (Exchange _ _ _ _) other = (refl, refl)
no_reading_lem (Disconnection _ _ _) other = absurd (miss unread 5 tt other)
no_reading_lem (Reconnection _ _ _) other = (refl, refl)
no_reading_lem (Cancellation _ _ _) other = absurd (miss unread 7 tt other)
no_reading_lem (Payment _ _) other = (refl, refl)
no_reading_lem (StoppedCancellation _) other = (refl, refl)

abbrev unmissed : List ℕ
unmissed = 0 ∷ 1 ∷ 4 ∷ 5 ∷ 6 ∷ 7 ∷ 8 ∷ 9 ∷ []

pub no_miss_lem : (call : Call) → OneOf unmissed (tag_of the_type call) → (misses call ≡ false) × (miss_in call ≡ no_miss)
no_miss_lem (Opening _ _ _) other = (refl, refl)
no_miss_lem (Reading _ _ _) other = (refl, refl)
no_miss_lem (Missed _ _) other = absurd (miss unmissed 2 tt other)
no_miss_lem (Absent _ _) other = absurd (miss unmissed 3 tt other)
no_miss_lem (Exchange _ _ _ _) other = (refl, refl)
no_miss_lem (Disconnection _ _ _) other = (refl, refl)
no_miss_lem (Reconnection _ _ _) other = (refl, refl)
no_miss_lem (Cancellation _ _ _) other = (refl, refl)
no_miss_lem (Payment _ _) other = (refl, refl)
no_miss_lem (StoppedCancellation _) other = (refl, refl)

abbrev closing : List ℕ
closing = 1 ∷ 2 ∷ 3 ∷ 5 ∷ 7 ∷ []

pub some_closing : (call : Call) → OneOf closing (tag_of the_type call) → reads call ≡ false → misses call ≡ false → ⊥
some_closing (Opening _ _ _) one r m = absurd (miss closing 0 tt one)
some_closing (Reading _ _ _) one r m = false≢true (sym r)
some_closing (Missed _ _) one r m = false≢true (sym m)
some_closing (Absent _ _) one r m = false≢true (sym m)
some_closing (Exchange _ _ _ _) one r m = absurd (miss closing 4 tt one)
some_closing (Disconnection _ _ _) one r m = false≢true (sym r)
some_closing (Reconnection _ _ _) one r m = absurd (miss closing 6 tt one)
some_closing (Cancellation _ _ _) one r m = false≢true (sym r)
some_closing (Payment _ _) one r m = absurd (miss closing 8 tt one)
some_closing (StoppedCancellation _) one r m = absurd (miss closing 9 tt one)
