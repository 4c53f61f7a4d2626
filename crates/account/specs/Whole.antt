-- When an account handed in is whole: number 41 declines every other.
use Rattle.std.specs.Prelude.{Bool, true, false, cond, not, ◌&&◌, ◌||◌, ℕ, ◌+◌, leb, eqb}
use Rattle.common.specs.Range.{within}
use Rattle.lists.specs.Every.{every, same}
use Rattle.tariff.specs.declared.BillingPeriod.{BillingPeriod}
use Rattle.meter.specs.{declared.Estimate.Estimate, declared.Estimates.Estimates}
use Rattle.ledger.specs.{declared.Item.Item, declared.Ledger.Ledger, Interest.is_price, Posting.standing}
use Rattle.ledger.specs.Limits.{most_price, most_interest, most_gathered}
use Rattle.intake.specs.declared.Status.TheVariants.{New, Supplied, Stopped, Cancelled}
use Rattle.intake.specs.Limits.{most_days, most_charge, day_allowed, digits_allowed, on_dial, fuel_allowed, misses_allowed, volume_allowed}
use Rattle.intake.specs.declared.Status.{Status}
use Rattle.account.specs.{declared.Account.Account, Limits.last_due_day, Limits.items_allowed, Limits.credit_allowed}
use Rattle.account.specs.Calls.{new_account, standing_estimates}

-- Two marks that agree, and two places of an array, field for field.
abbrev pub agree : Bool → Bool → Bool
agree mark true = mark
agree mark false = not mark

abbrev pub same_period : BillingPeriod → BillingPeriod → Bool
same_period one other =
    eqb one.days other.days &&
    eqb one.closing_day other.closing_day &&
    eqb one.fuel.lng other.fuel.lng &&
    eqb one.fuel.propane other.fuel.propane

abbrev pub same_estimate : Estimate → Estimate → Bool
same_estimate one other =
    agree one.absent other.absent &&
    same_period one.period other.period &&
    eqb one.volume other.volume &&
    eqb one.charged other.charged

abbrev pub same_item : Item → Item → Bool
same_item one other =
    agree (is_price one.kind) (is_price other.kind) &&
    eqb one.amount other.amount &&
    eqb one.unpaid other.unpaid &&
    eqb one.share other.share &&
    eqb one.gathered other.gathered &&
    eqb one.obligation other.obligation &&
    eqb one.due other.due

-- The parts of a new account, field for field, and place for place in the arrays.
unfoldable pub made_meter : Account → Bool
made_meter a =
    eqb a.latest new_account.latest &&
    eqb a.meter.digits new_account.meter.digits &&
    eqb a.meter.dial new_account.meter.dial &&
    eqb a.meter.pool new_account.meter.pool &&
    eqb a.meter.basis new_account.meter.basis

unfoldable pub made_estimates : Estimates → Bool
made_estimates estimates =
    eqb estimates.count new_account.estimates.count && same same_estimate estimates.periods new_account.estimates.periods

unfoldable pub made_ledger : Ledger → Bool
made_ledger ledger =
    eqb ledger.count new_account.ledger.count &&
    eqb ledger.held new_account.ledger.held &&
    eqb ledger.credit new_account.ledger.credit &&
    same same_item ledger.items new_account.ledger.items

-- New as made: the account equals `new_account` in all of them.
unfoldable pub as_made : Account → Bool
as_made a = made_meter a && made_estimates a.estimates && made_ledger a.ledger

-- An estimate: 1 to 36,495 days, fuel as number 6 allows, no closing day past the latest day, volume at most 99,999, charge at most 10^8.
unfoldable pub whole_estimate : ℕ → Estimate → Bool
whole_estimate latest estimate =
    within 1 most_days estimate.period.days &&
    fuel_allowed estimate.period.fuel &&
    leb estimate.period.closing_day latest &&
    volume_allowed estimate.volume &&
    leb estimate.charged most_charge

-- An item: 1 to its amount unpaid, price items at most 10^9, interest items at most 10^12, no obligation day past the latest day,
-- no due day past 36,524, no more of its body unpaid than is unpaid of it, a gathered sum of at most 10^14.
unfoldable pub whole_item : ℕ → Item → Bool
whole_item latest item =
    within 1 item.amount item.unpaid &&
    leb item.amount (cond (is_price item.kind) most_price most_interest) &&
    leb item.obligation latest &&
    leb item.due last_due_day &&
    leb item.share item.unpaid &&
    leb item.gathered most_gathered

-- At most 72 items, interest held at most 10^12, credit as number 13 allows, and 0 while an item is open.
unfoldable pub whole_ledger : ℕ → Ledger → Bool
whole_ledger latest ledger =
    items_allowed ledger.count &&
    every (whole_item latest) (standing ledger).open_items &&
    leb ledger.held most_interest &&
    credit_allowed ledger.credit &&
    (eqb ledger.credit 0 || eqb ledger.count 0)

-- The latest day is one that number 2 allows; dial, pool, volumes and estimates keep to their limits.
unfoldable pub whole_meter : Account → Bool
whole_meter a =
    day_allowed a.latest &&
    digits_allowed a.meter.digits &&
    on_dial a.meter.digits a.meter.dial &&
    volume_allowed a.meter.pool &&
    volume_allowed a.meter.basis &&
    misses_allowed a.estimates.count &&
    every (whole_estimate a.latest) (standing_estimates a)

-- What is asked of every account but a new one.
unfoldable pub whole_parts : Account → Bool
whole_parts a = whole_meter a && whole_ledger a.latest a.ledger

-- The period start passes the latest day by at most one, the stop day does not pass it, and nothing is held once cancelled.
unfoldable pub whole_status : Status → Account → Bool
whole_status New a = as_made a
whole_status (Supplied start) a = leb start (a.latest + 1) && whole_parts a
whole_status (Stopped stop) a = leb stop a.latest && whole_parts a
whole_status Cancelled a = eqb a.ledger.held 0 && whole_parts a

unfoldable pub whole : Account → Bool
whole a = whole_status a.status a
