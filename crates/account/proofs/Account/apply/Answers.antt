-- 14 and 41 are asked in this order; past both, `answer` ensures the rest.
use Rattle.common.proofs.Words.{◌≡◌, sym, ◌∙◌, true, false}
use Rattle.duedays.specs.DueDays.{list_allowed}
use Rattle.account.specs.Whole.{whole}
use Rattle.account.proofs.Concluding.{outcome_not_listed, outcome_not_whole}
use Rattle.account.proofs.Account.apply.Goals as goal

pub returns-in_default : goal.returns-in_default
returns-in_default c =
    let unlisted : list_allowed c.args.holidays.now ≡ false = sym c.in_default.ensures.allowed in
    (rw c.number.ensures at c.decline.ensures) ∙ sym (outcome_not_listed _ _ _ unlisted)

pub returns-in_default-of : goal.returns-in_default-of
returns-in_default-of c =
    let listed : list_allowed c.args.holidays.now ≡ true = sym c.in-Some.ensures.allowed in
    let broken : whole c.args.self ≡ false = sym c.in_default-of.ensures.is_whole in
    (rw c.number-in_default-of.ensures at c.decline-in_default-of.ensures) ∙ sym (outcome_not_whole _ _ _ listed broken)
