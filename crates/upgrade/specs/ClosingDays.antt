-- Closing days of the standing estimates of an account kept from before request b of document 02, when estimates had none.
use Rattle.std.specs.Prelude.{cond, List, [], ◌∷◌, ◌++◌, map, ℕ, ◌-◌, drop}
use Rattle.lists.specs.Sum.{total}
use Rattle.meter.specs.{declared.Estimate.Estimate}
use Rattle.intake.specs.{declared.Status.Status, Statuses.is_supplied, Statuses.start_of}
use Rattle.account.specs.{declared.Account.Account, Calls.head_of, Calls.account_of, Calls.standing_estimates}

-- The estimate with this closing day.
abbrev pub closed_on : ℕ → Estimate → Estimate
closed_on day estimate =
    record {
      absent = estimate.absent;
      period = record { days = estimate.period.days; closing_day = day; fuel = estimate.period.fuel };
      volume = estimate.volume;
      charged = estimate.charged;
    }

abbrev pub days_in : List Estimate → ℕ
days_in = total (λ estimate. estimate.period.days)

-- Estimates follow on each other up to the period start: each closed on the day before it less the days of those behind it, not below 0.
-- The oldest first.
abbrev pub followed_by : ℕ → List Estimate → List Estimate
followed_by start [] = []
followed_by start (estimate ∷ estimates) = closed_on (start - 1 - days_in estimates) estimate ∷ followed_by start estimates

-- Where the account isn't supplied no period runs, and the latest day stands for all.
abbrev pub worked_out : Status → ℕ → List Estimate → List Estimate
worked_out status latest estimates =
    cond (is_supplied status) (followed_by (start_of status) estimates) (map (closed_on latest) estimates)

-- The account with other estimates standing. The places that hold none stay as they are.
abbrev pub with_estimates : Account → List Estimate → Account
with_estimates a estimates =
    account_of (head_of a) (record { count = a.estimates.count; periods = estimates ++ drop a.estimates.count a.estimates.periods }) a.ledger

-- The account with the closing days worked out, and with them forgotten, as an account kept from before comes.
unfoldable pub with_closing_days : Account → Account
with_closing_days a = with_estimates a (worked_out a.status a.latest (standing_estimates a))

abbrev pub without_closing_days : Account → Account
without_closing_days a = with_estimates a (map (closed_on 0) (standing_estimates a))
