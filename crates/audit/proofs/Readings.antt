-- 02, 06 and 08: a real reading that closes a period keeps account and book together. Assumes nothing.
use Rattle.common.proofs.Words.{◌≡◌, refl, ap, sym, ◌∙◌, true, false, false≢true, List, [], ℕ, ◌+◌, ◌*◌, ◌≤◌, le_refl, arith, ℤ, length}
use Rattle.common.proofs.Words.{length-take}
use Rattle.lists.specs.Sum.{sum}
use Rattle.tariff.specs.{declared.Fuel.Fuel, declared.BillingPeriod.BillingPeriod}
use Rattle.tariff.proofs.Bounds.{price_most}
use Rattle.meter.specs.Metering.{pool_to, read_at}
use Rattle.meter.proofs.Sharing.{final_sum}
use Rattle.duedays.specs.DueDays.{list_allowed}
use Rattle.ledger.specs.Posting.{Standing, stored, held_posted, charge_of}
use Rattle.ledger.specs.declared.Ledger.{Ledger}
use Rattle.intake.specs.declared.Status.{Status}
use Rattle.intake.specs.declared.Status.TheVariants.{Supplied, Stopped, Cancelled}
use Rattle.intake.specs.{declared.Call.Call, Limits.most_days, Limits.most_charge, Limits.most_misses, Statuses.start_of}
use Rattle.intake.specs.Periods.{closed_period, day_after}
use Rattle.account.specs.Calls.{head_of, standing_estimates, made_final, closing_price, closing_net, closed_ledger, after_reading}
use Rattle.account.specs.declared.Account.{Account}
use Rattle.closing.specs.Closing.{of_this_period, stored_estimates}
use Rattle.account.proofs.Facts.{MeterFacts, Facts, StatusFacts, estimates_bounded}
use Rattle.intake.proofs.Passed.{ReadingPassed}
use Rattle.closing.proofs.Nets.{billable, this_within, charge_most}
use Rattle.audit.specs.Book.{Book, Money, Period, is_reading, is_absence, prices, price_at, last_of, new_period, pool_with, with_reading}
use Rattle.audit.specs.Book.{net_added, settled, finished, interest_entered, cancelled, read, accept_reading}
use Rattle.audit.proofs.Periods.{given, last_is, net_added_lem, zeros_after}
use Rattle.audit.proofs.Matching.{Metered, pool_to_lem, estimates_stand, Matched, StatusMatch, Supply, supply}
use Rattle.audit.proofs.Standings.{Stands, Fits, stands_limited, stands_balanced, stands_facts, cancelled_stands, posted_stands}
use Rattle.audit.proofs.Standings.{closing_stands}
use Rattle.audit.proofs.Balance.{finished_open, entered_none}
use Rattle.account.specs.Calls
use Rattle.audit.specs.Book

-- A call that is a real reading.
module _ (holidays : List ℕ) (listed : list_allowed holidays ≡ true)
    {a : Account} {b : Book} (w : Matched a b) {day reading : ℕ} {fuel : Fuel} (p : ReadingPassed (head_of a) day reading fuel)
    (call : Call) (is-reading : is_reading call ≡ true) (no-absence : is_absence call ≡ false) where
  -- what the account makes of it
  abbrev period : BillingPeriod
  period = closed_period (start_of a.status) day fuel

  abbrev final : List ℕ
  final = made_final a day reading fuel

  abbrev price : ℕ
  price = closing_price a day reading fuel

  abbrev ledger : Standing
  ledger = closed_ledger holidays a day reading fuel

  supplied : Supply a b
  supplied = supply w p.supplied

  -- and what the book does
  pool : ℕ
  pool = pool_with b.metering reading

  periods : List Period
  periods = with_reading b.metering b.periods call day reading fuel

  net : ℤ
  unfolding periods
  net = net_added b.periods periods

  this_period : Period
  unfolding pool
  this_period = new_period b.metering call day fuel (last_of (given b.periods pool))

  -- The money of the book before interest that a cancellation enters.
  money : Money
  money = settled (Book.closed holidays b.money day net) day

  pool_is : pool_to a.meter reading ≡ pool
  unfolding pool
  pool_is = pool_to_lem w.metered reading

  final_is : final ≡ given b.periods pool
  unfolding pool
  final_is = rw (estimates_stand w.metered, pool_is)

  price_is : price ≡ price_at this_period
  unfolding this_period
  price_is = rw (supplied.start_is, final_is, last_is (given b.periods pool))

  net_is : closing_net a day reading fuel ≡ net
  unfolding net periods this_period pool
  net_is =
      rw (price_is, final_is, estimates_stand w.metered, pool_is)
      (net_added_lem b.periods pool w.metered.zeros (price_at this_period))

  -- Bounds.
  price_within : price ≤ most_charge
  price_within =
      let days_most : period.days ≤ most_days = omega (arith, p.day_most) in
      let this-most = this_within (standing_estimates a) (pool_to a.meter reading) p.pool_most in
      price_most period (of_this_period final) (billable period (of_this_period final) p.some_day days_most p.fuel_allowed this-most)

  charge_within : charge_of (closing_net a day reading fuel) ≤ 7 * most_charge
  charge_within =
      let facts = supplied.facts.meter in
      let few : length (standing_estimates a) ≤ most_misses =
      omega (arith, length-take a.estimates.count a.estimates.periods, facts.misses_most) in
      charge_most (standing_estimates a) (pool_to a.meter reading) price few (estimates_bounded a facts) p.pool_most price_within

  -- What stands after the closing.
  closed_after : Stands day ledger money (prices periods)
  unfolding money net
  closed_after =
      closing_stands holidays listed w supplied.facts p.not_before p.day_most periods net_is (omega (arith, charge_within))

  -- What the account keeps to after the reading.
  meter_after : (status : Status) (after : Ledger) → MeterFacts (after_reading a day reading fuel status after)
  meter_after status after =
      let facts = supplied.facts.meter in
      let basis_most = this_within (standing_estimates a) (pool_to a.meter reading) p.pool_most in
      search arith

  metered_after : Metered (read_at a.meter reading (of_this_period final)) (stored_estimates []) (read b.metering day reading) periods
  unfolding periods this_period pool
  metered_after =
      record {
        dial_is = refl;
        digits_is = w.metered.digits_is;
        pool_is = refl;
        basis_is = rw (no-absence, final_is) (sym (last_is (given b.periods pool)));
        estimates_are = rw is-reading refl;
        zeros = ((λ e. absurd (false≢true (sym no-absence ∙ e))), zeros_after b.periods pool w.metered.zeros);
      }

  -- 02 and 06: a reading, and a stop.
  module _ (fits : Fits ledger) where
    facts_after : (status : Status) → Facts (after_reading a day reading fuel status (stored ledger))
    facts_after status = record { meter = meter_after status (stored ledger); ledger = stands_facts closed_after fits }

    finished_is : finished holidays (Book.closed holidays b.money day net) day ≡ money
    unfolding money
    finished_is = finished_open holidays (Book.closed holidays b.money day net) day supplied.not_cancelled

    read_matched : (status : Status)
        → StatusMatch status (record { metering = read b.metering day reading; periods = periods; money = money })
        → StatusFacts status (after_reading a day reading fuel status (stored ledger))
        → Matched (Calls.read holidays a day reading fuel status).account (accept_reading holidays b call day reading fuel (λ m. m))
    unfolding periods net
    read_matched status match facts =
        rw finished_is
        (record {
          metered = metered_after;
          balanced = stands_balanced closed_after fits;
          status_match = match;
          facts = facts;
          limited = stands_limited closed_after;
        })

    pub reading-matched :
        Matched (Calls.read holidays a day reading fuel (Supplied (day_after day))).account (accept_reading holidays b call day reading fuel (λ m. m))
    unfolding money
    reading-matched =
        read_matched (Supplied (day_after day)) (refl, supplied.not_cancelled) (le_refl (day + 1), facts_after (Supplied (day_after day)))

    pub disconnection-matched :
        Matched (Calls.read holidays a day reading fuel (Stopped day)).account (accept_reading holidays b call day reading fuel (λ m. m))
    unfolding money periods
    disconnection-matched = read_matched (Stopped day) ((λ d. refl), supplied.not_cancelled) (le_refl day, facts_after (Stopped day))

  -- 08: cancellation.
  module _ (fits : Fits (held_posted holidays day ledger)) where
    last_after : Stands day (held_posted holidays day ledger) (cancelled (settled (interest_entered holidays money day) day)) (prices periods)
    last_after = cancelled_stands (posted_stands closed_after holidays listed p.day_most fits.count_most)

    pub cancellation-matched :
        Matched (Calls.cancelled holidays a day reading fuel).account (accept_reading holidays b call day reading fuel cancelled)
    unfolding periods net money
    cancellation-matched =
        let none = entered_none holidays day closed_after.kept in
        record {
          metered = metered_after;
          balanced = stands_balanced last_after fits;
          status_match = (none, refl);
          facts = (
            ap (λ (s : Standing). s.held) last_after.is ∙ none,
            record { meter = meter_after Cancelled (stored (held_posted holidays day ledger)); ledger = stands_facts last_after fits },
          );
          limited = stands_limited last_after;
        }

  -- A real closing makes final what the meters advanced.
  pub reading_advanced : sum final + b.metering.advanced ≡ (read b.metering day reading).advanced
  unfolding pool
  reading_advanced = omega (arith, final_sum (standing_estimates a) (pool_to a.meter reading), pool_is)
