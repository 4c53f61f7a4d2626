-- The ten calls: what each makes of an account, and what its answer says, before the limits of numbers 12 and 13.
use Rattle.std.specs.Prelude.{Bool, true, false, cond, List, [], ◌∷◌, ◌++◌, ℕ, ◌+◌, ℤ, pos}
use Rattle.tariff.specs.{declared.Fuel.Fuel, Price.price_of}
use Rattle.meter.specs.Metering.{pool_to, set_on, exchanged_for, read_at, missed_at}
use Rattle.meter.specs.{declared.Estimate.Estimate, declared.Estimates.Estimates, declared.Meter.Meter, Sharing.final_volumes}
use Rattle.ledger.specs.Posting.{Standing, standing, stored, closed, paid, held_posted}
use Rattle.ledger.specs.declared.Ledger.{Ledger}
use Rattle.intake.specs.declared.Status.TheVariants.{New, Supplied, Stopped, Cancelled}
use Rattle.intake.specs.declared.Call.TheVariants.{Opening, Reading, Missed, Absent, Exchange, Disconnection, Reconnection, Cancellation}
use Rattle.intake.specs.declared.Call.TheVariants.{Payment, StoppedCancellation}
use Rattle.intake.specs.{declared.Status.Status, declared.Head.Head, declared.Call.Call, Heads.head_on}
use Rattle.intake.specs.{Statuses.is_cancelled, Statuses.start_of, Statuses.stop_of}
use Rattle.intake.specs.{Periods.closed_period, Periods.day_after, Periods.resumed_start}
use Rattle.closing.specs.Closing.{of_this_period, net_of, stored_estimates}
use Rattle.account.specs.declared.Account.{Account}
use Rattle.meter.specs.Sharing as Sharing

abbrev pub new_account : Account
new_account =
    record {
      status = New;
      latest = 0;
      meter = record { digits = 0; dial = 0; pool = 0; basis = 0 };
      estimates = stored_estimates [];
      ledger = stored (record { open_items = []; credit = 0; held = 0 });
    }

-- The numbers of an account beside its estimates and its ledger, and the account of such numbers.
abbrev pub head_of : Account → Head
head_of a = record { status = a.status; latest = a.latest; meter = a.meter; standing = a.estimates.count }

abbrev pub account_of : Head → Estimates → Ledger → Account
account_of h estimates ledger = record { status = h.status; latest = h.latest; meter = h.meter; estimates = estimates; ledger = ledger }

-- The account behind a call of this day.
abbrev pub account_on : Account → ℕ → Status → Meter → Estimates → Ledger → Account
account_on a day status meter estimates ledger = account_of (head_on (head_of a) status day meter estimates.count) estimates ledger

-- with another meter, or another ledger
abbrev pub with_meter : Account → ℕ → Status → Meter → Account
with_meter a day status meter = account_on a day status meter a.estimates a.ledger

abbrev pub with_ledger : Account → ℕ → Status → Ledger → Account
with_ledger a day status ledger = account_on a day status a.meter a.estimates ledger

-- What a call makes: the account after it, the estimated volume, the volumes made final, the net, and interest posted.
pub record Work : Type 0 where
  pub account : Account
  pub estimated : ℕ
  pub volumes : List ℕ
  pub net : ℤ
  pub interest : ℕ

-- A call that closes nothing and posts no interest.
abbrev pub quiet : Account → Work
quiet account = record { account = account; estimated = 0; volumes = []; net = pos 0; interest = 0 }

abbrev pub standing_estimates : Account → List Estimate
standing_estimates a = Sharing.standing a.estimates

-- 02, 06 and 08 alike: what a reading that closes the period works out.
module _ (a : Account) (day reading : ℕ) (fuel : Fuel) where
  abbrev pub made_final : List ℕ
  made_final = final_volumes (standing_estimates a) (pool_to a.meter reading)

  abbrev pub closing_price : ℕ
  closing_price = price_of (closed_period (start_of a.status) day fuel) (of_this_period made_final)

  abbrev pub closing_net : ℤ
  closing_net = net_of (standing_estimates a) (pool_to a.meter reading) made_final closing_price

  -- All volumes are final, so no estimate stands and the pool is 0.
  abbrev pub after_reading : Status → Ledger → Account
  after_reading status ledger = account_on a day status (read_at a.meter reading (of_this_period made_final)) (stored_estimates []) ledger

-- and posts on the ledger, by the list of closed days.
module _ (holidays : List ℕ) (a : Account) (day reading : ℕ) (fuel : Fuel) where
  abbrev pub closed_ledger : Standing
  closed_ledger = closed holidays day (closing_net a day reading fuel) (standing a.ledger)

  -- A closing posts interest held.
  abbrev pub read : Status → Work
  read status =
      record {
        account = after_reading a day reading fuel status (stored closed_ledger);
        estimated = 0;
        volumes = made_final a day reading fuel;
        net = closing_net a day reading fuel;
        interest = a.ledger.held;
      }

  -- A cancellation posts the interest that it brings, too, as one last item.
  abbrev pub cancelled : Work
  cancelled =
      record {
        account = after_reading a day reading fuel Cancelled (stored (held_posted holidays day closed_ledger));
        estimated = 0;
        volumes = made_final a day reading fuel;
        net = closing_net a day reading fuel;
        interest = a.ledger.held + closed_ledger.held;
      }

-- 03 and 04 alike: the period is billed on an estimate, which stands until a reading. The pool waits.
module _ (a : Account) (day : ℕ) (fuel : Fuel) where
  abbrev pub estimate_of : Bool → ℕ → Estimate
  estimate_of absent volume =
      record {
        absent = absent;
        period = closed_period (start_of a.status) day fuel;
        volume = volume;
        charged = price_of (closed_period (start_of a.status) day fuel) volume;
      }

abbrev pub missed : List ℕ → Account → ℕ → Fuel → Bool → ℕ → Work
missed holidays a day fuel absent volume =
    let estimate = estimate_of a day fuel absent volume in
    record {
      account =
          account_on a day (Supplied (day_after day)) (missed_at a.meter absent volume)
          (stored_estimates (standing_estimates a ++ (estimate ∷ [])))
          (stored (closed holidays day (pos estimate.charged) (standing a.ledger)));
      estimated = volume;
      volumes = [];
      net = pos estimate.charged;
      interest = a.ledger.held;
    }

-- 01 and 07 set the dial and begin a period.
abbrev pub begun : Account → ℕ → ℕ → ℕ → ℕ → Work
begun a day reading digits start = quiet (with_meter a day (Supplied start) (set_on a.meter digits reading))

-- 05 adds the old meter's advance to the pool and goes on with the new meter. It closes no period.
abbrev pub exchanged : Account → ℕ → ℕ → ℕ → ℕ → Work
exchanged a day old new digits = quiet (with_meter a day a.status (exchanged_for a.meter old new digits))

-- A payment: what it brings in interest is held, and on a cancelled account posted at once as one last item.
abbrev pub paid_ledger : Account → ℕ → ℕ → Standing
paid_ledger a day yen = paid day yen (standing a.ledger)

abbrev pub payment : List ℕ → Account → ℕ → ℕ → Work
payment holidays a day yen =
    let ledger = paid_ledger a day yen in
    record {
      account = with_ledger a day a.status (stored (cond (is_cancelled a.status) (held_posted holidays day ledger) ledger));
      estimated = 0;
      volumes = [];
      net = pos 0;
      interest = cond (is_cancelled a.status) ledger.held 0;
    }

-- A cancellation while stopped posts interest held only.
abbrev pub stopped_cancellation : List ℕ → Account → ℕ → Work
stopped_cancellation holidays a day =
    record {
      account = with_ledger a day Cancelled (stored (held_posted holidays day (standing a.ledger)));
      estimated = 0;
      volumes = [];
      net = pos 0;
      interest = a.ledger.held;
    }

-- The work of each call, by a list of closed days.
unfoldable pub work : List ℕ → Account → Call → Work
work holidays a (Opening day reading digits) = begun a day reading digits day
work holidays a (Reading day reading fuel) = read holidays a day reading fuel (Supplied (day_after day))
work holidays a (Missed day fuel) = missed holidays a day fuel false a.meter.basis
work holidays a (Absent day fuel) = missed holidays a day fuel true 0
work holidays a (Exchange day old new digits) = exchanged a day old new digits
work holidays a (Disconnection day reading fuel) = read holidays a day reading fuel (Stopped day)
work holidays a (Reconnection day reading digits) = begun a day reading digits (resumed_start (stop_of a.status) day)
work holidays a (Cancellation day reading fuel) = cancelled holidays a day reading fuel
work holidays a (Payment day yen) = payment holidays a day yen
work holidays a (StoppedCancellation day) = stopped_cancellation holidays a day
