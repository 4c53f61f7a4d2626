-- Digits and the number of estimates are asked first: the span and the walk over the estimates need them.
use Rattle.common.proofs.Words.{◌≡◌, sym, ◌∙◌, true, false, and-true, and-false, le-leb, lt-leb}
use Rattle.intake.specs.Limits.{digits_allowed}
use Rattle.account.specs.Whole.{whole_meter}
use Rattle.account.proofs.whole.whole_meter.Goals as goal

pub returns-then-not-digits_allowed : goal.returns-then-not-digits_allowed
unfolding whole_meter
returns-then-not-digits_allowed c =
    let e : digits_allowed c.args.account.now.meter.digits ≡ false = sym c.digits_allowed.ensures ∙ c.if-not-digits_allowed.true in
    simp (e, and-false)

pub returns-then-account-gt-MOST_MISSES : goal.returns-then-account-gt-MOST_MISSES
unfolding whole_meter
returns-then-account-gt-MOST_MISSES c = simp (lt-leb _ _ c.if-account-gt-MOST_MISSES.true, and-false)

pub returns : goal.returns
unfolding whole_meter
returns c =
    let e : digits_allowed c.args.account.now.meter.digits ≡ true = sym c.digits_allowed.ensures ∙ c.if-not-digits_allowed.false in
    simp (e, le-leb _ _ c.if-account-gt-MOST_MISSES.false, and-true) (cc)
