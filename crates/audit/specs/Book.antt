-- The book: what a list of calls comes to, from the list of closed days, the calls and the numbers that answered them, and nothing of the account.
use Rattle.std.specs.Prelude.{Bool, true, false, cond, not, ◌&&◌, List, [], ◌∷◌, ◌++◌, map, reverse, ℕ, suc, ◌+◌, ◌-◌, ◌*◌, min, ℤ, pos, negsuc, leb, ltb, eqb}
use Rattle.std.proofs.Math.IntN.{sub_ℕ}
use Rattle.lists.specs.Sum.{total}
use Rattle.duedays.specs.DueDays.{due_day}
use Rattle.tariff.specs.{declared.Fuel.Fuel, declared.BillingPeriod.BillingPeriod, Price.price_of}
use Rattle.meter.specs.{declared.Estimate.Estimate, Dial.advance, Sharing.final_volumes}
use Rattle.ledger.specs.{declared.Kind.Kind, declared.Kind.TheVariants.Interest, declared.Kind.TheVariants.Price}
use Rattle.ledger.specs.Interest.{body_of, counted_days, borne}
use Rattle.intake.specs.declared.Call.TheVariants.{Opening, Reading, Missed, Absent, Exchange, Disconnection, Reconnection, Cancellation}
use Rattle.intake.specs.declared.Call.TheVariants.{Payment, StoppedCancellation}
use Rattle.intake.specs.declared.Call.{Call}

pub record Period : Type 0 where
  -- the call that closed it
  pub call : Call
  pub closing_day : ℕ
  pub days : ℕ
  pub fuel : Fuel
  -- its standing volume: the last it was given
  pub volume : ℕ

-- An item entered.
pub record Entry : Type 0 where
  pub kind : Kind
  pub amount : ℕ
  pub obligation : ℕ
  pub due : ℕ
  -- what of its amount is paid
  pub covered : ℕ
  -- body yen × late days of the parts paid so far
  pub gathered : ℕ

-- What the meters have done.
pub record Metering : Type 0 where
  pub dial : ℕ
  pub digits : ℕ
  -- the first day of the period that runs
  pub start : ℕ
  pub pool : ℕ
  -- the advance under supply up to the latest real closing
  pub advanced : ℕ

-- What is owed and what was paid.
pub record Money : Type 0 where
  -- the oldest first
  pub entries : List Entry
  pub received : ℕ
  pub credited : ℕ
  pub arisen : ℕ
  -- interest arisen and not yet entered
  pub unentered : ℕ
  pub is_cancelled : Bool

pub record Book : Type 0 where
  pub metering : Metering
  -- the latest first
  pub periods : List Period
  pub money : Money

-- At first the book has no period and no item, and its pool and sums are 0.
abbrev pub empty : Book
empty =
    record {
      metering = record { dial = 0; digits = 0; start = 0; pool = 0; advanced = 0 };
      periods = [];
      money = record { entries = []; received = 0; credited = 0; arisen = 0; unentered = 0; is_cancelled = false };
    }

-- Periods.

-- 02, 06 and 08: the real readings that close a period.
abbrev pub is_reading : Call → Bool
is_reading (Opening day reading digits) = false
is_reading (Reading day reading fuel) = true
is_reading (Missed day fuel) = false
is_reading (Absent day fuel) = false
is_reading (Exchange day old new digits) = false
is_reading (Disconnection day reading fuel) = true
is_reading (Reconnection day reading digits) = false
is_reading (Cancellation day reading fuel) = true
is_reading (Payment day yen) = false
is_reading (StoppedCancellation day) = false

-- 04: missed with absence throughout known.
abbrev pub is_absence : Call → Bool
is_absence (Opening day reading digits) = false
is_absence (Reading day reading fuel) = false
is_absence (Missed day fuel) = false
is_absence (Absent day fuel) = true
is_absence (Exchange day old new digits) = false
is_absence (Disconnection day reading fuel) = false
is_absence (Reconnection day reading digits) = false
is_absence (Cancellation day reading fuel) = false
is_absence (Payment day yen) = false
is_absence (StoppedCancellation day) = false

-- The estimates that stand, the latest first: the periods since the latest real closing. And the periods before them.
abbrev pub estimates : List Period → List Period
estimates [] = []
estimates (period ∷ periods) = cond (is_reading period.call) [] (period ∷ estimates periods)

abbrev pub before_estimates : List Period → List Period
before_estimates [] = []
before_estimates (period ∷ periods) = cond (is_reading period.call) (period ∷ periods) (before_estimates periods)

-- What its price depends on, beside its volume.
abbrev pub billed_as : Period → BillingPeriod
billed_as period = record { days = period.days; closing_day = period.closing_day; fuel = period.fuel }

-- The price of a period at its standing volume, with its own days, fuel prices and closing day.
abbrev pub price_at : Period → ℕ
price_at period = price_of (billed_as period) period.volume

abbrev pub prices : List Period → ℕ
prices = total price_at

-- The basis of missed readings: the volume of the nearest period that wasn't an 04 period; if there is none it is 0 (14(4), 14(7); request e).
abbrev pub basis : List Period → ℕ
basis [] = 0
basis (period ∷ periods) = cond (is_absence period.call) (basis periods) period.volume

abbrev pub closed_on : List Period → ℕ → Bool
closed_on [] day = false
closed_on (period ∷ periods) day = eqb period.closing_day day

-- A period as the sharing rule takes it.
abbrev pub as_estimate : Period → Estimate
as_estimate period =
    record {
      absent = is_absence period.call;
      period = billed_as period;
      volume = period.volume;
      charged = price_at period;
    }

abbrev pub with_volume : Period → ℕ → Period
with_volume period volume =
    record { call = period.call; closing_day = period.closing_day; days = period.days; fuel = period.fuel; volume = volume }

-- Each period is given its volume, both the oldest first.
abbrev pub revised : List Period → List ℕ → List Period
revised [] volumes = []
revised (period ∷ periods) [] = period ∷ periods
revised (period ∷ periods) (volume ∷ volumes) = with_volume period volume ∷ revised periods volumes

abbrev pub last_of : List ℕ → ℕ
last_of [] = 0
last_of (volume ∷ []) = volume
last_of (volume ∷ next ∷ volumes) = last_of (next ∷ volumes)

-- Items.

-- An item of a day, with the ledger's days: due on the first day from 30 days later on that isn't listed as closed.
abbrev pub entry : List ℕ → Kind → ℕ → ℕ → Entry
entry holidays kind day amount =
    record { kind = kind; amount = amount; obligation = day; due = due_day holidays day; covered = 0; gathered = 0 }

-- An amount above zero is entered as an item.
abbrev pub entered_as : List ℕ → Kind → ℕ → ℕ → List Entry
entered_as holidays kind day amount = cond (ltb 0 amount) (entry holidays kind day amount ∷ []) []

-- So much of its body is paid where so much of its amount is: the body first, the tax last.
abbrev pub body_paid : Entry → ℕ → ℕ
body_paid e covered = min covered (body_of e.kind e.amount e.obligation)

-- An item that this sum reaches on a day: what of its body is paid by it and was not before, times its late days, joins what it gathered.
abbrev pub covering : ℕ → ℕ → Entry → Entry
covering day reaching e =
    let covered = min e.amount reaching in
    record {
      kind = e.kind;
      amount = e.amount;
      obligation = e.obligation;
      due = e.due;
      covered = covered;
      gathered = e.gathered + (body_paid e covered - body_paid e e.covered) * counted_days e.due day;
    }

-- Settling by definition, part by part: payments plus credited nets reach an item by what they are above the sum of all items before it.
-- `earlier` is that sum.
abbrev pub covered_by : ℕ → ℕ → ℕ → List Entry → List Entry
covered_by day paid earlier [] = []
covered_by day paid earlier (e ∷ es) = covering day (paid - earlier) e ∷ covered_by day paid (earlier + e.amount) es

-- It is settled by the first call after which they reach all of it.
abbrev pub is_settled : Entry → Bool
is_settled e = leb e.amount e.covered

-- The interest of the items that are settled now and were not before.
abbrev pub brought : Entry → Entry → ℕ
brought before after = cond (not (is_settled before) && is_settled after) (borne after.kind after.gathered) 0

abbrev pub arising : ℕ → ℕ → ℕ → List Entry → ℕ
arising day paid earlier [] = 0
arising day paid earlier (e ∷ es) = brought e (covering day (paid - earlier) e) + arising day paid (earlier + e.amount) es

-- Meters.

-- 01 and 07 set its dial, digits and period start.
abbrev pub begun : Metering → ℕ → ℕ → ℕ → Metering
begun m reading digits start = record { dial = reading; digits = digits; start = start; pool = m.pool; advanced = m.advanced }

-- 02, 05, 06 and 08 add their advance to its pool.
abbrev pub pool_with : Metering → ℕ → ℕ
pool_with m reading = m.pool + advance m.digits m.dial reading

-- 05 then sets the new dial and digits.
abbrev pub exchanged : Metering → ℕ → ℕ → ℕ → Metering
exchanged m old new digits = record { dial = new; digits = digits; start = m.start; pool = pool_with m old; advanced = m.advanced }

-- 02, 06 and 08 then set its dial, and at their end move the pool into the advance under supply and leave it 0. The next period begins the day after.
abbrev pub read : Metering → ℕ → ℕ → Metering
read m day reading = record { dial = reading; digits = m.digits; start = day + 1; pool = 0; advanced = m.advanced + pool_with m reading }

-- 03 and 04 read nothing.
abbrev pub missed : Metering → ℕ → Metering
missed m day = record { dial = m.dial; digits = m.digits; start = day + 1; pool = m.pool; advanced = m.advanced }

-- A closing adds a period: its call, closing day, days, fuel prices and volume.
abbrev pub new_period : Metering → Call → ℕ → Fuel → ℕ → Period
new_period m call day fuel volume =
    record { call = call; closing_day = day; days = day + 1 - m.start; fuel = fuel; volume = volume }

-- A real closing also revises the estimates, by the sharing rule on the book's own pool and periods.
abbrev pub volumes_given : List Period → ℕ → List ℕ
volumes_given periods pool = final_volumes (map as_estimate (reverse (estimates periods))) pool

abbrev pub with_reading : Metering → List Period → Call → ℕ → ℕ → Fuel → List Period
with_reading m periods call day reading fuel =
    new_period m call day fuel (last_of (volumes_given periods (pool_with m reading))) ∷
    reverse (revised (reverse (estimates periods)) (volumes_given periods (pool_with m reading))) ++ before_estimates periods

-- 03 bills the basis; 04 bills 0 (14(6)).
abbrev pub with_miss : Metering → List Period → ℕ → Fuel → List Period
with_miss m periods day fuel = new_period m (Missed day fuel) day fuel (basis periods) ∷ periods

abbrev pub with_absence : Metering → List Period → ℕ → Fuel → List Period
with_absence m periods day fuel = new_period m (Absent day fuel) day fuel 0 ∷ periods

-- Money.

abbrev pub above_zero : ℤ → ℕ
above_zero (pos n) = n
above_zero (negsuc n) = 0

abbrev pub below_zero : ℤ → ℕ
below_zero (pos n) = 0
below_zero (negsuc n) = suc n

-- A closing's net is what it adds to the price of all periods at their standing volumes.
abbrev pub net_added : List Period → List Period → ℤ
net_added before after = sub_ℕ (prices after) (prices before)

-- Interest arisen and not yet entered, if any, is entered as an item, then a net above zero as a price item; a net below zero joins the credited nets.
abbrev pub closed : List ℕ → Money → ℕ → ℤ → Money
closed holidays m day net =
    record {
      entries = m.entries ++ (entered_as holidays Interest day m.unentered ++ entered_as holidays Price day (above_zero net));
      received = m.received;
      credited = m.credited + below_zero net;
      arisen = m.arisen;
      unentered = 0;
      is_cancelled = m.is_cancelled;
    }

-- Interest not yet entered is entered by itself.
abbrev pub interest_entered : List ℕ → Money → ℕ → Money
interest_entered holidays m day =
    record {
      entries = m.entries ++ entered_as holidays Interest day m.unentered;
      received = m.received;
      credited = m.credited;
      arisen = m.arisen;
      unentered = 0;
      is_cancelled = m.is_cancelled;
    }

-- A payment adds its yen to yen received.
abbrev pub received : Money → ℕ → Money
received m yen =
    record {
      entries = m.entries;
      received = m.received + yen;
      credited = m.credited;
      arisen = m.arisen;
      unentered = m.unentered;
      is_cancelled = m.is_cancelled;
    }

abbrev pub cancelled : Money → Money
cancelled m =
    record {
      entries = m.entries;
      received = m.received;
      credited = m.credited;
      arisen = m.arisen;
      unentered = m.unentered;
      is_cancelled = true;
    }

abbrev pub paid_in : Money → ℕ
paid_in m = m.received + m.credited

-- The parts that the call pays, on the book's items, payments and credited nets. Each price item that it settles adds its interest to
-- interest arisen.
abbrev pub settled : Money → ℕ → Money
settled m day =
    record {
      entries = covered_by day (paid_in m) 0 m.entries;
      received = m.received;
      credited = m.credited;
      arisen = m.arisen + arising day (paid_in m) 0 m.entries;
      unentered = m.unentered + arising day (paid_in m) 0 m.entries;
      is_cancelled = m.is_cancelled;
    }

-- Last, at every call: items are settled, and from an 08 or 0a on, that one included, interest not yet entered is at once entered as one
-- last item, which what is over reaches too.
abbrev pub finished : List ℕ → Money → ℕ → Money
finished holidays m day =
    cond m.is_cancelled (settled (interest_entered holidays (settled m day) day) day) (settled m day)

-- Calls.

abbrev pub accept_reading : List ℕ → Book → Call → ℕ → ℕ → Fuel → (Money → Money) → Book
accept_reading holidays b call day reading fuel and_then =
    let periods = with_reading b.metering b.periods call day reading fuel in
    record {
      metering = read b.metering day reading;
      periods = periods;
      money = finished holidays (and_then (closed holidays b.money day (net_added b.periods periods))) day;
    }

abbrev pub accept_miss : List ℕ → Book → ℕ → List Period → Book
accept_miss holidays b day periods =
    record {
      metering = missed b.metering day;
      periods = periods;
      money = finished holidays (closed holidays b.money day (net_added b.periods periods)) day;
    }

abbrev pub accept_meter : List ℕ → Book → ℕ → Metering → Book
accept_meter holidays b day metering = record { metering = metering; periods = b.periods; money = finished holidays b.money day }

abbrev pub accept_money : List ℕ → Book → ℕ → Money → Book
accept_money holidays b day money = record { metering = b.metering; periods = b.periods; money = finished holidays money day }

unfoldable pub accept : List ℕ → Book → Call → Book
accept holidays b (Opening day reading digits) = accept_meter holidays b day (begun b.metering reading digits day)
accept holidays b (Reading day reading fuel) = accept_reading holidays b (Reading day reading fuel) day reading fuel (λ money. money)
accept holidays b (Missed day fuel) = accept_miss holidays b day (with_miss b.metering b.periods day fuel)
accept holidays b (Absent day fuel) = accept_miss holidays b day (with_absence b.metering b.periods day fuel)
accept holidays b (Exchange day old new digits) = accept_meter holidays b day (exchanged b.metering old new digits)
accept holidays b (Disconnection day reading fuel) = accept_reading holidays b (Disconnection day reading fuel) day reading fuel (λ money. money)
accept holidays b (Reconnection day reading digits) =
    accept_meter holidays b day (begun b.metering reading digits (cond (closed_on b.periods day) (day + 1) day))
accept holidays b (Cancellation day reading fuel) = accept_reading holidays b (Cancellation day reading fuel) day reading fuel cancelled
accept holidays b (Payment day yen) = accept_money holidays b day (received b.money yen)
accept holidays b (StoppedCancellation day) = accept_money holidays b day (cancelled (interest_entered holidays b.money day))

-- A number other than 0 leaves the book as it was.
unfoldable pub enter : List ℕ → Book → Call → ℕ → Book
enter holidays b call number = cond (eqb number 0) (accept holidays b call) b
