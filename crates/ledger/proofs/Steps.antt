-- How large the numbers of a step are. Assumes nothing.
use Rattle.common.proofs.Words.{◌≡◌, ℕ, ◌+◌, ◌-◌, arith, leb, eqb}
use Rattle.ledger.specs.{declared.Coverage.Coverage, declared.numbers.Tally.Tally}
use Rattle.ledger.specs.Numbers.{Step, posting, paying, StepMost}
use Rattle.common.proofs.Cases.{by_cond}

pub posting_most : (t : Tally) (amount : ℕ) {r : Step} → r ≡ posting t amount → StepMost r (t.count + 1) (t.owed + amount)
unfolding posting
posting_most t amount is =
    rw is
    (by_cond (λ step. StepMost step (t.count + 1) (t.owed + amount)) (leb amount t.credit) (omega arith) (omega arith))

pub paying_most : (t : Tally) (money : ℕ) (cover : Coverage) {r : Step} → r ≡ paying t money cover → StepMost r t.count t.owed
unfolding paying
paying_most t money cover is =
    rw is
    (by_cond (λ step. StepMost step t.count t.owed) (eqb (t.count - cover.covered) 0) (omega arith) (omega arith))
