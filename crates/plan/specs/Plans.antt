-- What a call plans: the head after it, what becomes of the estimates, what is asked of the ledger, and the numbers of its answer.
use Rattle.std.specs.Prelude.{◌≡◌, Bool, true, false, cond, List, [], ◌∷◌, ◌++◌, ℕ, ◌+◌, ◌≤◌, ◌<◌, None, Some, Result, IfOk}
use Rattle.common.specs.{declared.Refusal.Refusal, Refusals.told}
use lib.{Dec.eqb, IntN.ℤ, IntN.pos}
use Rattle.tariff.specs.{declared.Fuel.Fuel, Price.price_of}
use Rattle.meter.specs.Metering.{set_on, exchanged_for, read_at, missed_at}
use Rattle.meter.specs.{declared.Estimate.Estimate, declared.Estimates.Estimates, Sharing.standing}
use Rattle.ledger.specs.{declared.Entry.Entry, Posting.charge_of, Posting.credit_of}
use Rattle.intake.specs.declared.Call.TheVariants.{Opening, Reading, Missed, Absent, Exchange, Disconnection, Reconnection, Cancellation}
use Rattle.intake.specs.declared.Call.TheVariants.{Payment, StoppedCancellation}
use Rattle.intake.specs.declared.Status.{Status}
use Rattle.intake.specs.declared.Status.TheVariants.{Supplied, Stopped, Cancelled}
use Rattle.intake.specs.{declared.Head.Head, declared.Call.Call, Limits.most_misses, Heads.head_on}
use Rattle.intake.specs.{Statuses.is_cancelled, Statuses.start_of, Statuses.stop_of}
use Rattle.intake.specs.{Periods.days_of, Periods.closed_period, Periods.day_after, Periods.resumed_start}
use Rattle.intake.specs.Refusals.{reading_refusal, first_refusal}
use Rattle.plan.specs.declared.Change.{Change}
use Rattle.plan.specs.declared.Change.TheVariants.{Kept, Cleared, Added}
use Rattle.plan.specs.declared.Then.{Then}
use Rattle.plan.specs.declared.Then.TheVariants.{Goes, Stops, Ends}
use Rattle.plan.specs.{declared.ClosingRead.ClosingRead, declared.Plan.Plan}
use Rattle.closing.specs.{declared.Figures.Figures, Closing.stored_estimates, Closing.finals, Closing.read_figures}

-- What becomes of the estimates. One that is added closes on this day, at this volume and net.
module _ (day volume : ℕ) (net : ℤ) where
  abbrev pub added_on : Bool → ℕ → Fuel → Estimate
  added_on absent days fuel =
      record {
        absent = absent;
        period = record { days = days; closing_day = day; fuel = fuel };
        volume = volume;
        charged = charge_of net;
      }

  abbrev pub changed_on : Change → Estimates → Estimates
  changed_on Kept estimates = estimates
  changed_on Cleared estimates = stored_estimates []
  changed_on (Added absent days fuel) estimates = stored_estimates (standing estimates ++ (added_on absent days fuel ∷ []))

-- They are the plan's.
abbrev pub changed : Plan → Estimates → Estimates
changed p estimates = changed_on p.head.latest p.estimated p.net p.change estimates

-- One more estimate has a place.
abbrev pub Room : Change → ℕ → Type 0
Room Kept standing = 0 ≤ most_misses
Room Cleared standing = 0 ≤ most_misses
Room (Added absent days fuel) standing = standing < most_misses

-- What follows a reading: the next period, a stop, or the end.
abbrev pub ends : Then → Bool
ends Goes = false
ends Stops = false
ends Ends = true

abbrev pub status_after : Then → ℕ → Status
status_after Goes day = Supplied (day_after day)
status_after Stops day = Stopped day
status_after Ends day = Cancelled

-- A plan that asks nothing of the ledger.
abbrev pub quiet_plan : Head → Plan
quiet_plan h = record { head = h; change = Kept; entry = None; estimated = 0; count = 0; net = pos 0 }

-- What a call comes to: its plan where it passes, and else the number by which it is declined.
pub record PlannedAs (number : ℕ) (passed : Plan) (r : Result Plan Refusal) : Type 0 where
  pub tells : told r ≡ number
  pub plans : IfOk r (λ p. p ≡ passed)

abbrev pub volumes_as : ℕ → List ℕ → List ℕ
volumes_as number volumes = cond (eqb number 0) volumes []

-- 01 and 07: supply begins at a dial.
abbrev pub begun_plan : Head → ℕ → ℕ → ℕ → ℕ → Plan
begun_plan h day reading digits start = quiet_plan (head_on h (Supplied start) day (set_on h.meter digits reading) h.standing)

-- 05: meter change.
abbrev pub exchanged_plan : Head → ℕ → ℕ → ℕ → ℕ → Plan
exchanged_plan h day old new digits = quiet_plan (head_on h h.status day (exchanged_for h.meter old new digits) h.standing)

-- 09 and 0a: what they ask of the ledger, and no more.
abbrev pub asking_plan : Head → Status → Entry → Plan
asking_plan h status entry =
    record {
      head = head_on h status entry.day h.meter h.standing;
      change = Kept;
      entry = Some entry;
      estimated = 0;
      count = 0;
      net = pos 0;
    }

abbrev pub money_entry : ℕ → ℕ → Bool → Entry
money_entry day money posts = record { day = day; money = money; charge = None; posts = posts }

abbrev pub payment_plan : Head → ℕ → ℕ → Plan
payment_plan h day yen = asking_plan h h.status (money_entry day yen (is_cancelled h.status))

-- A closing posts what it charges and the interest held.
abbrev pub charge_entry : ℕ → ℕ → Entry
charge_entry day charge = record { day = day; money = 0; charge = Some charge; posts = false }

abbrev pub held_entry : ℕ → Entry
held_entry day = record { day = day; money = 0; charge = Some 0; posts = false }

abbrev pub stopped_plan : Head → ℕ → Plan
stopped_plan h day = asking_plan h Cancelled (held_entry day)

-- 03 and 04: a missed reading.
module _ (h : Head) (day : ℕ) (fuel : Fuel) (absent : Bool) (volume : ℕ) where
  abbrev pub miss_charge : ℕ
  miss_charge = price_of (closed_period (start_of h.status) day fuel) volume

  abbrev pub miss_plan : Plan
  miss_plan =
      record {
        head = head_on h (Supplied (day_after day)) day (missed_at h.meter absent volume) (h.standing + 1);
        change = Added absent (days_of (start_of h.status) day) fuel;
        entry = Some (record { day = day; money = 0; charge = Some miss_charge; posts = false });
        estimated = volume;
        count = 0;
        net = pos miss_charge;
      }

-- 03 bills the basis of missed readings, 04 bills 0.
abbrev pub missed_volume : Head → Bool → ℕ
missed_volume h absent = cond absent 0 h.meter.basis

-- 02, 06 and 08, over the estimates that stand.
-- What a reading that worked out these figures plans.
abbrev pub figured_plan : Head → ℕ → ℕ → Then → Figures → Plan
figured_plan h day reading next f =
    record {
      head = head_on h (status_after next day) day (read_at h.meter reading f.volume) 0;
      change = Cleared;
      entry = Some (record { day = day; money = credit_of f.net; charge = Some (charge_of f.net); posts = ends next });
      estimated = 0;
      count = f.count;
      net = f.net;
    }

abbrev pub read_plan : Head → List Estimate → ℕ → ℕ → Fuel → Then → Plan
read_plan h estimates day reading fuel next = figured_plan h day reading next (read_figures h estimates day reading fuel)

-- The same by what the three calls have in common.
abbrev pub ReadPlanned : Head → List Estimate → ClosingRead → Result Plan Refusal → Type 0
ReadPlanned h estimates r =
    PlannedAs (reading_refusal h r.day r.reading r.fuel) (read_plan h estimates r.day r.reading r.fuel r.then)

abbrev pub read_volumes : Head → List Estimate → ClosingRead → List ℕ
read_volumes h estimates r = volumes_as (reading_refusal h r.day r.reading r.fuel) (finals h estimates r.reading)

-- The plan of each call that 1 to 11 let pass, and the volumes that it makes final.
unfoldable pub passed_plan : Head → List Estimate → Call → Plan
passed_plan h estimates (Opening day reading digits) = begun_plan h day reading digits day
passed_plan h estimates (Reading day reading fuel) = read_plan h estimates day reading fuel Goes
passed_plan h estimates (Missed day fuel) = miss_plan h day fuel false h.meter.basis
passed_plan h estimates (Absent day fuel) = miss_plan h day fuel true 0
passed_plan h estimates (Exchange day old new digits) = exchanged_plan h day old new digits
passed_plan h estimates (Disconnection day reading fuel) = read_plan h estimates day reading fuel Stops
passed_plan h estimates (Reconnection day reading digits) = begun_plan h day reading digits (resumed_start (stop_of h.status) day)
passed_plan h estimates (Cancellation day reading fuel) = read_plan h estimates day reading fuel Ends
passed_plan h estimates (Payment day yen) = payment_plan h day yen
passed_plan h estimates (StoppedCancellation day) = stopped_plan h day

unfoldable pub passed_volumes : Head → List Estimate → Call → List ℕ
passed_volumes h estimates (Opening day reading digits) = []
passed_volumes h estimates (Reading day reading fuel) = finals h estimates reading
passed_volumes h estimates (Missed day fuel) = []
passed_volumes h estimates (Absent day fuel) = []
passed_volumes h estimates (Exchange day old new digits) = []
passed_volumes h estimates (Disconnection day reading fuel) = finals h estimates reading
passed_volumes h estimates (Reconnection day reading digits) = []
passed_volumes h estimates (Cancellation day reading fuel) = finals h estimates reading
passed_volumes h estimates (Payment day yen) = []
passed_volumes h estimates (StoppedCancellation day) = []

-- What any call comes to, and the volumes that it shows.
abbrev pub Planned : Head → List Estimate → Call → Result Plan Refusal → Type 0
Planned h estimates call = PlannedAs (first_refusal h call) (passed_plan h estimates call)

unfoldable pub planned_volumes : Head → List Estimate → Call → List ℕ
planned_volumes h estimates call = volumes_as (first_refusal h call) (passed_volumes h estimates call)

-- A call that reads the meter to close a period: it alone looks at the estimates. And a missed reading.
abbrev pub reads : Call → Bool
reads (Opening day reading digits) = false
reads (Reading day reading fuel) = true
reads (Missed day fuel) = false
reads (Absent day fuel) = false
reads (Exchange day old new digits) = false
reads (Disconnection day reading fuel) = true
reads (Reconnection day reading digits) = false
reads (Cancellation day reading fuel) = true
reads (Payment day yen) = false
reads (StoppedCancellation day) = false

abbrev pub misses : Call → Bool
misses (Opening day reading digits) = false
misses (Reading day reading fuel) = false
misses (Missed day fuel) = true
misses (Absent day fuel) = true
misses (Exchange day old new digits) = false
misses (Disconnection day reading fuel) = false
misses (Reconnection day reading digits) = false
misses (Cancellation day reading fuel) = false
misses (Payment day yen) = false
misses (StoppedCancellation day) = false

-- 02, 06 and 08, and 03 and 04, by what they have in common.
abbrev pub no_reading : ClosingRead
no_reading = record { day = 0; reading = 0; fuel = record { lng = 0; propane = 0 }; then = Ends }

abbrev pub reading_in : Call → ClosingRead
reading_in (Opening day reading digits) = no_reading
reading_in (Reading day reading fuel) = record { day = day; reading = reading; fuel = fuel; then = Goes }
reading_in (Missed day fuel) = no_reading
reading_in (Absent day fuel) = no_reading
reading_in (Exchange day old new digits) = no_reading
reading_in (Disconnection day reading fuel) = record { day = day; reading = reading; fuel = fuel; then = Stops }
reading_in (Reconnection day reading digits) = no_reading
reading_in (Cancellation day reading fuel) = record { day = day; reading = reading; fuel = fuel; then = Ends }
reading_in (Payment day yen) = no_reading
reading_in (StoppedCancellation day) = no_reading

pub record Miss : Type 0 where
  pub day : ℕ
  pub fuel : Fuel
  pub absent : Bool

abbrev pub no_miss : Miss
no_miss = record { day = 0; fuel = record { lng = 0; propane = 0 }; absent = true }

abbrev pub miss_in : Call → Miss
miss_in (Opening day reading digits) = no_miss
miss_in (Reading day reading fuel) = no_miss
miss_in (Missed day fuel) = record { day = day; fuel = fuel; absent = false }
miss_in (Absent day fuel) = record { day = day; fuel = fuel; absent = true }
miss_in (Exchange day old new digits) = no_miss
miss_in (Disconnection day reading fuel) = no_miss
miss_in (Reconnection day reading digits) = no_miss
miss_in (Cancellation day reading fuel) = no_miss
miss_in (Payment day yen) = no_miss
miss_in (StoppedCancellation day) = no_miss
