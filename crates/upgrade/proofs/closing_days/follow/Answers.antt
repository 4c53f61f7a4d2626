use Rattle.common.proofs.Words.{◌≡◌, sym, subst, suc, ◌-◌, arith}
use Rattle.upgrade.proofs.Turning.{Turned, turned_first, turned_next}
use Rattle.upgrade.proofs.closing_days.follow.Goals as goal

pub loop-i-init : goal.loop-i-init
loop-i-init c = rw c.saturating_sub-closing_day.ensures (turned_first c.args.start c.args.estimates.now)

pub loop-i-preserved : goal.loop-i-preserved
loop-i-preserved c =
    let l = c.loop-i in
    let is : suc (l.i - 1) ≡ l.i = omega (arith, c.loop-i-test.true) in
    let now = subst (λ i. Turned c.args.start c.args.estimates.now l.estimates i l.closing_day) (sym is) l.invariant in
    rw c.saturating_sub-closing_day-in-loop-i.ensures (turned_next _ now)
