-- The outcome is built of the parts that the definition names, as what the calls ensure says; 12 and 13 decide by the number that
-- the open items tell. A ledger of which nothing is asked keeps to them.
use Rattle.common.proofs.Words.{◌≡◌, sym, ap, ◌∙◌}
use Rattle.ledger.specs.{Settling.unpaid_of, Posting.Standing, Posting.standing, Posting.stored}
use Rattle.ledger.specs.Entries.{asked, number_of, interest_posted}
use Rattle.ledger.proofs.{Bounds.standing_stored, Queues.next_asked}
use Rattle.account.proofs.{Ready.count_most, Ready.whole_within, Ready.open_bounds, Carrying.last_none, Carrying.places_few}
use Rattle.account.proofs.whole.WholeAccount.carry_out.Goals as goal

pub unpaid-requires : goal.unpaid-requires
unpaid-requires c = open_bounds c.args.self.now.account c.args.self.now.is_whole

-- Nothing is asked of the ledger.
pub returns-in_default : goal.returns-in_default
returns-in_default c = λ final same.
    let a = c.args.self.now.account in
    let w = c.args.self.now.is_whole in
    let none = last_none a.ledger (count_most a w) (whole_within a w).credit_most in
    record {
      tells = rw c.in_default.is (sym none);
      accepts =
          rw (
            c.in_default.is,
            c.account_of.ensures,
            c.changed-estimates.ensures,
            c.answer_of.ensures,
            c.unpaid.ensures,
            same,
          );
    }

pub of-open-requires : goal.of-open-requires
of-open-requires c = open_bounds c.args.self.now.account c.args.self.now.is_whole

pub enter-requires-clause-within : goal.enter-requires-clause-within
enter-requires-clause-within c = rw c.of-open.ensures (whole_within c.args.self.now.account c.args.self.now.is_whole)

-- The entry is made.
pub returns : goal.returns
returns c = λ final same.
    let entry = c.in-Some.entry in
    let before = standing c.args.self.now.account.ledger in
    let holidays = c.args.holidays.days.now in
    let after = asked holidays entry before in
    let told : 0 ≡ number_of (asked holidays entry before) = rw c.of-open.ensures at c.in_ok-interest.ensures.number in
    let stands = rw c.of-open.ensures at c.enter.ensures.stands in
    let next : c.enter.new.self ≡ after = stands ∙ next_asked holidays entry before (sym told) in
    let interest : c.in_ok-interest.interest ≡ interest_posted holidays entry before =
    rw c.of-open.ensures at c.in_ok-interest.ensures.interest
    in
    let ledger : c.ledger.result ≡ stored after = c.ledger.ensures ∙ ap stored next in
    let unpaid : c.unpaid-2.result ≡ unpaid_of (standing (stored after)).open_items =
    c.unpaid-2.ensures ∙
    ap (λ (x : Standing). unpaid_of x.open_items) (next ∙ sym (standing_stored after (places_few holidays entry before (sym told))))
    in
    let credit : c.credit.result ≡ after.credit = c.credit.ensures ∙ ap (λ (x : Standing). x.credit) next in
    record {
      tells = rw c.in-Some.is told;
      accepts =
          rw (
            c.in-Some.is,
            c.account_of-2.ensures,
            c.changed-estimates.ensures,
            c.answer_of-2.ensures,
            ledger,
            unpaid,
            credit,
            interest,
            same,
          );
    }
