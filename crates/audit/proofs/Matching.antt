-- How an account and the book of the calls made on it belong together. Assumes nothing.
use Rattle.common.proofs.Words.{◌≡◌, refl, ap, subst, ◌∙◌, true, false, List, ℕ, ◌+◌, ◌≤◌, eqb}
use Rattle.lists.proofs.Pad.{take_pad}
use Rattle.meter.specs.{declared.Meter.Meter, declared.Estimates.Estimates, Metering.pool_to, Sharing.blank, Sharing.standing}
use Rattle.intake.specs.declared.Status.TheVariants.{New, Supplied, Stopped, Cancelled}
use Rattle.intake.specs.Statuses.{start_of, stop_of, is_new, is_supplied, is_stopped, is_cancelled}
use Rattle.intake.specs.{declared.Status.Status, Limits.most_misses}
use Rattle.account.specs.declared.Account.{Account}
use Rattle.closing.specs.Closing.{stored_estimates}
use Rattle.account.proofs.{Facts.Facts, Facts.StatusFacts, Sound.Limited}
use Rattle.audit.specs.Book.{Book, Metering, Period, basis, prices, pool_with, closed_on}
use Rattle.audit.proofs.{Balance.Balanced, Balance.on_ledger, Periods.AbsentZero, Periods.standing_of}

-- Dial, pool and periods.
pub record Metered (meter : Meter) (stored : Estimates) (book : Metering) (periods : List Period) : Type 0 where
  pub dial_is : meter.dial ≡ book.dial
  pub digits_is : meter.digits ≡ book.digits
  pub pool_is : meter.pool ≡ book.pool
  pub basis_is : meter.basis ≡ basis periods
  pub estimates_are : stored ≡ stored_estimates (standing_of periods)
  pub zeros : AbsentZero periods

module _ {meter : Meter} {stored : Estimates} {book : Metering} {periods : List Period} (w : Metered meter stored book periods) where
  pub pool_to_lem : (reading : ℕ) → pool_to meter reading ≡ pool_with book reading
  pool_to_lem reading = rw (w.pool_is, w.digits_is, w.dial_is)

  pub estimates_stand : standing stored ≡ standing_of periods
  estimates_stand = ap (λ e. standing e) w.estimates_are ∙ take_pad blank most_misses (standing_of periods)

-- What each status says of the book.
abbrev pub StatusMatch : Status → Book → Type 0
StatusMatch New b = b.money.is_cancelled ≡ false
StatusMatch (Supplied start) b = (start ≡ b.metering.start) × (b.money.is_cancelled ≡ false)
StatusMatch (Stopped stop) b = ((day : ℕ) → closed_on b.periods day ≡ eqb stop day) × (b.money.is_cancelled ≡ false)
StatusMatch Cancelled b = (b.money.unentered ≡ 0) × (b.money.is_cancelled ≡ true)

pub record Matched (a : Account) (b : Book) : Type 0 where
  pub metered : Metered a.meter a.estimates b.metering b.periods
  pub balanced : Balanced a.ledger b.money (prices b.periods)
  pub status_match : StatusMatch a.status b
  pub facts : StatusFacts a.status a
  pub limited : Limited (on_ledger b.money)

-- A status by its test.
pub new_is : (status : Status) → is_new status ≡ true → status ≡ New
new_is New e = refl
new_is (Supplied start) e = cc
new_is (Stopped stop) e = cc
new_is Cancelled e = cc

supplied_is : (status : Status) → is_supplied status ≡ true → status ≡ Supplied (start_of status)
supplied_is New e = cc
supplied_is (Supplied start) e = refl
supplied_is (Stopped stop) e = cc
supplied_is Cancelled e = cc

pub stopped_is : (status : Status) → is_stopped status ≡ true → status ≡ Stopped (stop_of status)
stopped_is New e = cc
stopped_is (Supplied start) e = cc
stopped_is (Stopped stop) e = refl
stopped_is Cancelled e = cc

pub cancelled_is : (status : Status) → is_cancelled status ≡ true → status ≡ Cancelled
cancelled_is New e = cc
cancelled_is (Supplied start) e = cc
cancelled_is (Stopped stop) e = cc
cancelled_is Cancelled e = refl

-- A supplied account.
pub record Supply (a : Account) (b : Book) : Type 0 where
  pub status_is : a.status ≡ Supplied (start_of a.status)
  pub start_is : start_of a.status ≡ b.metering.start
  pub start_most : start_of a.status ≤ a.latest + 1
  pub not_cancelled : b.money.is_cancelled ≡ false
  pub facts : Facts a

-- A stopped account.
pub record Stop (a : Account) (b : Book) : Type 0 where
  pub closed_on : (day : ℕ) → closed_on b.periods day ≡ eqb (stop_of a.status) day
  pub not_cancelled : b.money.is_cancelled ≡ false
  pub facts : Facts a

module _ {a : Account} {b : Book} (w : Matched a b) where
  pub new_open : is_new a.status ≡ true → b.money.is_cancelled ≡ false
  new_open new = rw (new_is a.status new) at w.status_match

  pub supply : is_supplied a.status ≡ true → Supply a b
  supply supplied =
      let is = supplied_is a.status supplied in
      let match = rw is at w.status_match in
      let facts = subst (λ s. StatusFacts s a) is w.facts in
      record { status_is = is; start_is = match.0; start_most = facts.0; not_cancelled = match.1; facts = facts.1 }

  pub stop : is_stopped a.status ≡ true → Stop a b
  stop stopped =
      let is = stopped_is a.status stopped in
      let match = rw is at w.status_match in
      record { closed_on = match.0; not_cancelled = match.1; facts = (subst (λ s. StatusFacts s a) is w.facts).1 }
