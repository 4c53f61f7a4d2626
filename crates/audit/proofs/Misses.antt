-- 03 and 04: a miss keeps account and book together. Assumes nothing.
use Rattle.common.proofs.Words.{◌≡◌, refl, ap, sym, ◌∙◌, true, false, cond, List, [], ◌∷◌, ◌++◌, map-append, reverse, reverse-cons, ℕ, ◌+◌, ◌≤◌}
use Rattle.common.proofs.Words.{le_refl, arith, ℤ, pos, length, length-append, length-take}
use Rattle.common.proofs.Cases.{by_cond}
use Rattle.lists.proofs.{Every.every_append, Pad.take_pad}
use Rattle.tariff.specs.{declared.Fuel.Fuel, declared.BillingPeriod.BillingPeriod}
use Rattle.tariff.proofs.Bounds.{price_most}
use Rattle.meter.specs.{declared.Estimate.Estimate, Sharing.blank}
use Rattle.duedays.specs.DueDays.{list_allowed}
use Rattle.ledger.specs.Posting.{Standing, standing, closed}
use Rattle.account.specs.Calls.{head_of, standing_estimates, estimate_of, missed}
use Rattle.account.specs.declared.Account.{Account}
use Rattle.intake.specs.{declared.Call.Call, Limits.most_days, Limits.most_volume, Limits.most_misses, Statuses.start_of, Periods.closed_period}
use Rattle.intake.specs.Heads.{EstimateBounds}
use Rattle.closing.specs.Closing.{stored_estimates}
use Rattle.account.proofs.Facts.{MeterFacts, EstimateFacts, estimates_later}
use Rattle.intake.proofs.Passed.{MissPassed}
use Rattle.closing.proofs.Nets.{billable}
use Rattle.audit.specs.Book.{Book, Money, Period, is_reading, is_absence, as_estimate, estimates, prices, price_at, new_period, net_added}
use Rattle.audit.specs.Book.{settled, finished, accept_miss}
use Rattle.audit.proofs.Matching.{Matched, Supply, supply, estimates_stand}
use Rattle.audit.proofs.Standings.{Stands, Fits, stands_limited, stands_balanced, stands_facts, closing_stands}
use Rattle.audit.proofs.{Balance.finished_open, Periods.sub_added, Periods.standing_of}
use Rattle.audit.specs.Book

-- A call that is no reading, of a volume within the limit, 0 for known absence.
module _ (holidays : List ℕ) (listed : list_allowed holidays ≡ true)
    {a : Account} {b : Book} (w : Matched a b) {day : ℕ} {fuel : Fuel} (p : MissPassed (head_of a) day fuel)
    (call : Call) (no_reading_lem : is_reading call ≡ false)
    (volume : ℕ) (within : volume ≤ most_volume) (absent_zero : is_absence call ≡ true → volume ≡ 0) where
  -- what the account makes of it
  abbrev period : BillingPeriod
  period = closed_period (start_of a.status) day fuel

  abbrev estimate : Estimate
  estimate = estimate_of a day fuel (is_absence call) volume

  abbrev ledger : Standing
  ledger = closed holidays day (pos estimate.charged) (standing a.ledger)

  supplied : Supply a b
  supplied = supply w p.supplied

  -- and what the book does
  this_period : Period
  this_period = new_period b.metering call day fuel volume

  abbrev periods : List Period
  periods = this_period ∷ b.periods

  net : ℤ
  unfolding this_period
  net = net_added b.periods periods

  money : Money
  money = settled (Book.closed holidays b.money day net) day

  estimate_is : estimate ≡ as_estimate this_period
  unfolding this_period
  estimate_is = rw supplied.start_is

  net_is : pos estimate.charged ≡ net
  unfolding net
  net_is = ap (λ (e : Estimate). pos e.charged) estimate_is ∙ sym (sub_added (price_at this_period) (prices b.periods))

  estimates_are : standing_estimates a ++ (estimate ∷ []) ≡ standing_of periods
  unfolding this_period
  estimates_are =
      rw (no_reading_lem, estimates_stand w.metered, estimate_is, reverse-cons this_period (estimates b.periods))
      (sym (map-append as_estimate (reverse (estimates b.periods)) (this_period ∷ [])))

  estimate_bounds : EstimateBounds estimate
  estimate_bounds =
      let days_most : period.days ≤ most_days = omega (arith, p.day_most) in
      let bill = billable period volume p.some_day days_most p.fuel_allowed within in
      let charged_most = price_most period volume bill in
      search

  -- What stands after the closing.
  closed_after : Stands day ledger money (prices periods)
  unfolding money net
  closed_after =
      let charged = estimate_bounds.charged_most in
      closing_stands holidays listed w supplied.facts p.not_before p.day_most periods net_is (omega arith)

  meter_after : MeterFacts (missed holidays a day fuel (is_absence call) volume).account
  meter_after =
      let all = standing_estimates a ++ (estimate ∷ []) in
      let facts = supplied.facts.meter in
      let long = length-append (standing_estimates a) (estimate ∷ []) in
      let misses_most : length all ≤ most_misses =
      omega (arith, long, length-take a.estimates.count a.estimates.periods, p.misses_most) in
      let before = estimates_later p.not_before (standing_estimates a) facts.estimates in
      let this : EstimateFacts day estimate = record { bounds = estimate_bounds; closing_most = le_refl day } in
      let each = every_append (EstimateFacts day) (standing_estimates a) (estimate ∷ []) before (this, tt) in
      let stored = rw (← take_pad blank most_misses all) at each in
      let basis_most = by_cond (λ v. v ≤ most_volume) (is_absence call) facts.basis_most within in
      search

  finished_is : finished holidays (Book.closed holidays b.money day net) day ≡ money
  unfolding money
  finished_is = finished_open holidays (Book.closed holidays b.money day net) day supplied.not_cancelled

  pub miss_matched : Fits (closed holidays day (pos (estimate_of a day fuel (is_absence call) volume).charged) (standing a.ledger))
      → Matched (missed holidays a day fuel (is_absence call) volume).account
      (accept_miss holidays b day (new_period b.metering call day fuel volume ∷ b.periods))
  unfolding this_period net
  miss_matched fits =
      rw finished_is
      (record {
        metered =
            let estimates = ap stored_estimates estimates_are in
            let basis_is = ap (λ v. cond (is_absence call) v volume) w.metered.basis_is in
            search;
        balanced = stands_balanced closed_after fits;
        status_match = (refl, unfold money in supplied.not_cancelled);
        facts = (le_refl (day + 1), record { meter = meter_after; ledger = stands_facts closed_after fits });
        limited = stands_limited closed_after;
      })
