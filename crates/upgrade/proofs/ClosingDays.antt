-- Closing days that are worked out keep an account whole. Assumes nothing.
use Rattle.common.proofs.Words.{◌≡◌, refl, sym, ap, subst, ◌∙◌, true, cond, List, [], ◌∷◌, map, ℕ, suc, ◌+◌, ◌-◌, ◌≤◌, le_refl, arith}
use Rattle.common.proofs.Words.{length, length-map, take}
use Rattle.common.proofs.Cases.{by_cond}
use Rattle.std.proofs.lemmas.List.{take-append-drop}
use Rattle.lists.specs.Every.{Every}
use Rattle.meter.specs.{declared.Estimate.Estimate}
use Rattle.intake.specs.declared.Status.TheVariants.{New, Supplied, Stopped, Cancelled}
use Rattle.intake.specs.{declared.Status.Status, Statuses.is_supplied, Statuses.start_of}
use Rattle.account.specs.{declared.Account.Account, Calls.head_of, Calls.account_of, Calls.standing_estimates, Whole.whole}
use Rattle.account.proofs.Facts.{EstimateFacts, Facts, StatusFacts, whole_facts, facts_whole}
use Rattle.account.proofs.Made.{made_facts}
use Rattle.upgrade.proofs.Places.{take_exchanged, drop_exchanged}
use Rattle.upgrade.specs.ClosingDays.{closed_on, days_in, followed_by, worked_out, with_estimates, with_closing_days, without_closing_days}

-- What is worked out has an estimate for each, and goes by no closing day that stood before.
pub followed_length : (start : ℕ) (estimates : List Estimate) → length (followed_by start estimates) ≡ length estimates
followed_length start [] = refl
followed_length start (e ∷ es) = ap suc (followed_length start es)

worked_out_length : (status : Status) (latest : ℕ) (estimates : List Estimate)
    → length (worked_out status latest estimates) ≡ length estimates
worked_out_length status latest es =
    by_cond (λ out. length out ≡ length es) (is_supplied status) (followed_length (start_of status) es) (length-map es (closed_on latest))

days_forgotten : (estimates : List Estimate) → days_in (map (closed_on 0) estimates) ≡ days_in estimates
days_forgotten [] = refl
days_forgotten (e ∷ es) = ap (e.period.days +◌) (days_forgotten es)

followed_forgotten : (start : ℕ) (estimates : List Estimate) → followed_by start (map (closed_on 0) estimates) ≡ followed_by start estimates
followed_forgotten start [] = refl
followed_forgotten start (e ∷ es) =
    λ i. closed_on (start - 1 - days_forgotten es i) e ∷ followed_forgotten start es i

closed_forgotten : (day : ℕ) (estimates : List Estimate) → map (closed_on day) (map (closed_on 0) estimates) ≡ map (closed_on day) estimates
closed_forgotten day [] = refl
closed_forgotten day (e ∷ es) = ap (closed_on day e ∷◌) (closed_forgotten day es)

worked_out_forgotten : (status : Status) (latest : ℕ) (estimates : List Estimate)
    → worked_out status latest (map (closed_on 0) estimates) ≡ worked_out status latest estimates
worked_out_forgotten status latest es =
    λ i. cond (is_supplied status) (followed_forgotten (start_of status) es i) (closed_forgotten latest es i)

nothing_worked_out : (status : Status) (latest : ℕ) → worked_out status latest [] ≡ []
nothing_worked_out status latest = by_cond (λ out. out ≡ []) (is_supplied status) refl refl

module _ (a : Account) where
  abbrev standing : List Estimate
  standing = standing_estimates a

  standing_with : (estimates : List Estimate) → length estimates ≡ length standing
      → standing_estimates (with_estimates a estimates) ≡ estimates
  standing_with estimates long = take_exchanged a.estimates.count a.estimates.periods estimates long

  -- Where what is worked out stands already, nothing changes.
  pub worked_out_same : worked_out a.status a.latest standing ≡ standing → with_closing_days a ≡ a
  unfolding with_closing_days
  worked_out_same e =
      let With : List Estimate → Account = λ periods.
      account_of (head_of a) (record { count = a.estimates.count; periods = periods }) a.ledger
      in
      ap (with_estimates a) e ∙ ap With (take-append-drop a.estimates.count a.estimates.periods)

  -- Worked out again they are what they are worked out to be.
  pub worked_out_again : with_closing_days (without_closing_days a) ≡ with_closing_days a
  unfolding with_closing_days
  worked_out_again =
      let forgotten = map (closed_on 0) standing in
      let long = length-map standing (closed_on 0) in
      let front = standing_with forgotten long in
      let behind = drop_exchanged a.estimates.count a.estimates.periods forgotten long in
      rw (front, behind, worked_out_forgotten a.status a.latest standing) refl

-- What is known of an estimate without a closing day is known of it with one.
facts_on : (latest day : ℕ) (e : Estimate) → day ≤ latest → EstimateFacts latest (closed_on 0 e) → EstimateFacts latest (closed_on day e)
facts_on latest day e h w =
    let b = w.bounds in
    record {
      bounds =
          record {
            days_least = b.days_least;
            days_most = b.days_most;
            fuel_allowed = b.fuel_allowed;
            volume_most = b.volume_most;
            charged_most = b.charged_most;
          };
      closing_most = h;
    }

followed_facts : (latest start : ℕ) → start ≤ latest + 1 → (es : List Estimate) → Every (EstimateFacts latest) (map (closed_on 0) es)
    → Every (EstimateFacts latest) (followed_by start es)
followed_facts latest start h [] w = tt
followed_facts latest start h (e ∷ es) w =
    (facts_on latest (start - 1 - days_in es) e (omega arith) w.0, followed_facts latest start h es w.1)

closed_facts : (latest : ℕ) (es : List Estimate) → Every (EstimateFacts latest) (map (closed_on 0) es)
    → Every (EstimateFacts latest) (map (closed_on latest) es)
closed_facts latest [] w = tt
closed_facts latest (e ∷ es) w = (facts_on latest latest e (le_refl latest) w.0, closed_facts latest es w.1)

worked_out_facts : (status : Status) (latest : ℕ) (es : List Estimate) → start_of status ≤ latest + 1
    → Every (EstimateFacts latest) (map (closed_on 0) es) → Every (EstimateFacts latest) (worked_out status latest es)
worked_out_facts status latest es h w =
    by_cond (Every (EstimateFacts latest)) (is_supplied status) (followed_facts latest (start_of status) h es w) (closed_facts latest es w)

module _ (a : Account) where
  abbrev before : Account
  before = without_closing_days a

  forgotten_stand : standing_estimates before ≡ map (closed_on 0) (standing_estimates a)
  forgotten_stand = standing_with a (map (closed_on 0) (standing_estimates a)) (length-map (standing_estimates a) (closed_on 0))

  facts_with : (estimates : List Estimate) → length estimates ≡ length (standing_estimates a)
      → (Every (EstimateFacts a.latest) (map (closed_on 0) (standing_estimates a)) → Every (EstimateFacts a.latest) estimates)
      → Facts before → Facts (with_estimates a estimates)
  facts_with estimates long known w =
      let m = w.meter in
      record {
        meter =
            record {
              latest_most = m.latest_most;
              digits_within = m.digits_within;
              dial_within = m.dial_within;
              pool_most = m.pool_most;
              basis_most = m.basis_most;
              misses_most = m.misses_most;
              estimates = rw (standing_with a estimates long) (known (rw forgotten_stand at m.estimates));
            };
        ledger = w.ledger;
      }

  -- Of a new account nothing is worked out.
  none_of_new : a.estimates.count ≡ 0 → with_closing_days a ≡ before
  unfolding with_closing_days
  none_of_new e =
      let none : standing_estimates a ≡ [] = ap (λ n. take n a.estimates.periods) e in
      rw none (ap (with_estimates a) (nothing_worked_out a.status a.latest))

  -- The same of every status: its period start passes the latest day by at most one.
  facts_after : start_of a.status ≤ a.latest + 1 → Facts before → Facts (with_closing_days a)
  unfolding with_closing_days
  facts_after h w =
      let es = standing_estimates a in
      facts_with (worked_out a.status a.latest es) (worked_out_length a.status a.latest es) (worked_out_facts a.status a.latest es h) w

  status_facts : (status : Status) → status ≡ a.status → StatusFacts status before → StatusFacts status (with_closing_days a)
  unfolding with_closing_days
  status_facts New is w =
      let count : a.estimates.count ≡ 0 = ap (λ (x : Account). x.estimates.count) (made_facts before w) in
      subst (StatusFacts New) (sym (none_of_new count)) w
  status_facts (Supplied start) is w = (w.0, facts_after (subst (λ s. start_of s ≤ a.latest + 1) is w.0) w.1)
  status_facts (Stopped stop) is w = (w.0, facts_after (subst (λ s. start_of s ≤ a.latest + 1) is (omega arith)) w.1)
  status_facts Cancelled is w = (w.0, facts_after (subst (λ s. start_of s ≤ a.latest + 1) is (omega arith)) w.1)

  -- An account kept from before that is whole stays whole.
  pub keeps_whole : whole before ≡ true → whole (with_closing_days a) ≡ true
  unfolding whole with_closing_days
  keeps_whole e = facts_whole a.status (with_closing_days a) (status_facts a.status refl (whole_facts before e))
