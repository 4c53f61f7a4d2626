-- What a call that numbers 1 to 11 let pass has passed. Assumes nothing.
use Rattle.common.proofs.Words.{◌≡◌, refl, Bool, true, false, not, cond, ℕ, suc, ◌+◌, ◌≤◌, ◌<◌, suc-ne-zero, leb, eqb}
use Rattle.common.proofs.Words.{leb-true, ltb-true}
use Rattle.tariff.specs.declared.Fuel.{Fuel}
use Rattle.meter.specs.Dial.{span, advance, within_half, Digits}
use Rattle.meter.specs.{declared.Meter.Meter, Metering.pool_to}
use Rattle.ledger.specs.Limits.{last_call_day}
use Rattle.intake.specs.Limits.{most_volume, most_misses, most_payment, day_allowed, fuel_allowed}
use Rattle.intake.specs.Refusals.{unless, begins, some_day, closes, advances, reading_refusal, miss_refusal, dial_refusal, exchange_refusal, payment_refusal}
use Rattle.intake.specs.{declared.Head.Head}
use Rattle.intake.specs.{Statuses.is_new, Statuses.is_supplied, Statuses.start_of, Periods.days_of}
use Rattle.common.proofs.Tests.{and_both, within_true}

-- A chain that comes to 0 has passed its first test, and the others come to 0.
pub passes : {test : Bool} {others : ℕ} (number : ℕ) → unless test (suc number) others ≡ 0 → (test ≡ true) × (others ≡ 0)
passes {test = true} number e = (refl, e)
passes {test = false} number e = absurd (suc-ne-zero number e)

pub record Begun (allowed : Bool) (latest day others : ℕ) : Type 0 where
  pub status_allows : allowed ≡ true
  pub day_most : day ≤ last_call_day
  pub not_before : latest ≤ day
  pub then_passed : others ≡ 0

pub begun : (allowed : Bool) (latest day others : ℕ) → begins allowed latest day others ≡ 0 → Begun allowed latest day others
begun allowed latest day others e =
    let one = passes _ e in
    let two = passes _ one.1 in
    let three = passes _ two.1 in
    record { status_allows = one.0; day_most = leb-true _ _ two.0; not_before = leb-true _ _ three.0; then_passed = three.1 }

-- The others are looked at where numbers 1 to 3, or 6 and 7, let the call pass.
pub begins_then : (allowed : Bool) (latest day others : ℕ)
    → begins allowed latest day others ≡ cond (eqb (begins allowed latest day 0) 0) others (begins allowed latest day 0)
begins_then allowed latest day others = go allowed (day_allowed day) (leb latest day)
  where
    go : (one two three : Bool) → let chain : ℕ → ℕ = λ rest. unless one 1 (unless two 2 (unless three 3 rest)) in
        chain others ≡ cond (eqb (chain 0) 0) others (chain 0)
    go false two three = refl
    go true false three = refl
    go true true false = refl
    go true true true = refl

pub closes_then : (h : Head) (day : ℕ) (fuel : Fuel) (others : ℕ)
    → closes h day fuel others ≡ cond (eqb (closes h day fuel 0) 0) others (closes h day fuel 0)
closes_then h day fuel others = go (fuel_allowed fuel) (some_day h day)
  where
    go : (six seven : Bool) → let chain : ℕ → ℕ = λ rest. unless six 6 (unless seven 7 rest) in
        chain others ≡ cond (eqb (chain 0) 0) others (chain 0)
    go false seven = refl
    go true false = refl
    go true true = refl

pool_passed : (m : Meter) (reading : ℕ) → advances m reading ≡ 0 → pool_to m reading ≤ most_volume
pool_passed m reading e =
    let nine = passes {test = within_half m.digits (advance m.digits m.dial reading)} _ e in
    leb-true _ _ (passes _ nine.1).0

-- 02, 06 and 08: a reading closes the period.
pub record ReadingPassed (h : Head) (day reading : ℕ) (fuel : Fuel) : Type 0 where
  pub supplied : is_supplied h.status ≡ true
  pub day_most : day ≤ last_call_day
  pub not_before : h.latest ≤ day
  pub on_dial : reading < span h.meter.digits
  pub fuel_allowed : fuel_allowed fuel ≡ true
  pub some_day : 0 < days_of (start_of h.status) day
  pub pool_most : pool_to h.meter reading ≤ most_volume

pub reading_passed : (h : Head) (day reading : ℕ) (fuel : Fuel) → reading_refusal h day reading fuel ≡ 0
    → ReadingPassed h day reading fuel
reading_passed h day reading fuel e =
    let b = begun (is_supplied h.status) h.latest day _ e in
    let five = passes _ b.then_passed in
    let six = passes _ five.1 in
    let seven = passes _ six.1 in
    record {
      supplied = b.status_allows;
      day_most = b.day_most;
      not_before = b.not_before;
      on_dial = ltb-true _ _ five.0;
      fuel_allowed = six.0;
      some_day = ltb-true _ _ seven.0;
      pool_most = pool_passed h.meter reading seven.1;
    }

-- 03 and 04: a missed reading.
pub record MissPassed (h : Head) (day : ℕ) (fuel : Fuel) : Type 0 where
  pub supplied : is_supplied h.status ≡ true
  pub day_most : day ≤ last_call_day
  pub not_before : h.latest ≤ day
  pub fuel_allowed : fuel_allowed fuel ≡ true
  pub some_day : 0 < days_of (start_of h.status) day
  pub misses_most : h.standing + 1 ≤ most_misses

pub miss_passed : (h : Head) (day : ℕ) (fuel : Fuel) → miss_refusal h day fuel ≡ 0 → MissPassed h day fuel
miss_passed h day fuel e =
    let b = begun (is_supplied h.status) h.latest day _ e in
    let six = passes _ b.then_passed in
    let seven = passes _ six.1 in
    record {
      supplied = b.status_allows;
      day_most = b.day_most;
      not_before = b.not_before;
      fuel_allowed = six.0;
      some_day = ltb-true _ _ seven.0;
      misses_most = leb-true _ _ (passes _ seven.1).0;
    }

-- 01 and 07: supply begins at a dial.
pub record DialPassed (allowed : Bool) (h : Head) (day reading digits : ℕ) : Type 0 where
  pub status_allows : allowed ≡ true
  pub day_most : day ≤ last_call_day
  pub not_before : h.latest ≤ day
  pub digits_within : Digits digits
  pub on_dial : reading < span digits

pub dial_passed : (allowed : Bool) (h : Head) (day reading digits : ℕ) → dial_refusal allowed h day reading digits ≡ 0
    → DialPassed allowed h day reading digits
dial_passed allowed h day reading digits e =
    let b = begun allowed h.latest day _ e in
    let four = passes _ b.then_passed in
    record {
      status_allows = b.status_allows;
      day_most = b.day_most;
      not_before = b.not_before;
      digits_within = within_true 4 5 digits four.0;
      on_dial = ltb-true _ _ (passes _ four.1).0;
    }

-- 05: meter change.
pub record ExchangePassed (h : Head) (day old new digits : ℕ) : Type 0 where
  pub supplied : is_supplied h.status ≡ true
  pub day_most : day ≤ last_call_day
  pub not_before : h.latest ≤ day
  pub digits_within : Digits digits
  pub old_on_dial : old < span h.meter.digits
  pub new_on_dial : new < span digits
  pub pool_most : pool_to h.meter old ≤ most_volume

pub exchange_passed : (h : Head) (day old new digits : ℕ) → exchange_refusal h day old new digits ≡ 0
    → ExchangePassed h day old new digits
exchange_passed h day old new digits e =
    let b = begun (is_supplied h.status) h.latest day _ e in
    let four = passes _ b.then_passed in
    let five = passes _ four.1 in
    let dials = and_both five.0 in
    record {
      supplied = b.status_allows;
      day_most = b.day_most;
      not_before = b.not_before;
      digits_within = within_true 4 5 digits four.0;
      old_on_dial = ltb-true _ _ dials.0;
      new_on_dial = ltb-true _ _ dials.1;
      pool_most = pool_passed h.meter old five.1;
    }

-- 09: payment.
pub record PaymentPassed (h : Head) (day yen : ℕ) : Type 0 where
  pub not_new : not (is_new h.status) ≡ true
  pub day_most : day ≤ last_call_day
  pub not_before : h.latest ≤ day
  pub yen_most : yen ≤ most_payment

pub payment_passed : (h : Head) (day yen : ℕ) → payment_refusal h day yen ≡ 0 → PaymentPassed h day yen
payment_passed h day yen e =
    let b = begun (not (is_new h.status)) h.latest day _ e in
    record {
      not_new = b.status_allows;
      day_most = b.day_most;
      not_before = b.not_before;
      yen_most = (within_true 1 most_payment yen (passes _ b.then_passed).0).1;
    }
