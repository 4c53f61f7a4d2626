-- The last period's volume, taken for the basis of missed readings, keeps an account whole. Assumes nothing.
use Rattle.common.proofs.Words.{◌≡◌, refl, sym, ap, ◌∙◌, true, false, cond, List, [], ◌∷◌, ℕ}
use Rattle.intake.specs.declared.Status.TheVariants.{New, Supplied, Stopped, Cancelled}
use Rattle.intake.specs.{declared.Status.Status, declared.Call.Call}
use Rattle.account.specs.{declared.Account.Account, Whole.whole}
use Rattle.account.proofs.Facts.{Facts, StatusFacts, whole_facts, facts_whole}
use Rattle.audit.specs.Book.{Period, basis}
use Rattle.audit.specs.Claim.{start, run}
use Rattle.audit.proofs.Theorem.{basis_kept}
use Rattle.upgrade.specs.Basis.{with_basis, without_basis, LastVolume, last_volume, last_absent}

module _ (a : Account) (volume : ℕ) (known : LastVolume a volume) where
  facts_with : Facts (without_basis a) → Facts (with_basis a volume)
  unfolding with_basis
  facts_with w =
      let m = w.meter in
      let basis_most = known.volume_most in
      record { meter = search; ledger = w.ledger }

  status_facts : (status : Status) → status ≡ a.status → StatusFacts status (without_basis a) → StatusFacts status (with_basis a volume)
  unfolding with_basis
  status_facts New is w = rw (known.none_of_new (sym is)) w
  status_facts (Supplied _) is w = (w.0, facts_with w.1)
  status_facts (Stopped _) is w = (w.0, facts_with w.1)
  status_facts Cancelled is w = (w.0, facts_with w.1)

  -- An account kept from before that is whole stays whole. Nothing is asked of its estimates: one of 03 need not have this volume.
  pub keeps_whole : whole (without_basis a) ≡ true → whole (with_basis a volume) ≡ true
  unfolding whole with_basis
  keeps_whole e = facts_whole a.status (with_basis a volume) (status_facts a.status refl (whole_facts (without_basis a) e))

-- Every account that a list reaches is given back if its last period is no 04 period.
pub given_back : (holidays : List ℕ) (calls : List Call) → let r = run holidays start calls in
    last_absent r.book.periods ≡ false → with_basis (without_basis r.account) (last_volume r.book.periods) ≡ r.account
unfolding with_basis
given_back holidays calls e =
    let r = run holidays start calls in
    ap (with_basis r.account) (nearest r.book.periods e ∙ sym (basis_kept holidays calls))
  where
    nearest : (periods : List Period) → last_absent periods ≡ false → last_volume periods ≡ basis periods
    nearest [] e = refl
    nearest (p ∷ periods) e = ap (λ absent. cond absent (basis periods) p.volume) (sym e)
