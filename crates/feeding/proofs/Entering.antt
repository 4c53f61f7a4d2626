-- A call planned and entered: what comes of it is its outcome. Assumes nothing.
use Rattle.common.proofs.Words.{◌≡◌, refl, sym, ap, subst, ◌∙◌, true, List, [], ◌∷◌, ℕ, ◌≤◌, arith, length, take, drop, length-append, length-replicate}
use Rattle.common.proofs.Words.{take-append_seam}
use Rattle.std.specs.Prelude.{Option, Some, None, Result, Ok, Err, IsErrAnd}
use Rattle.common.specs.{declared.Refusal.Refusal, Refusals.number_of}
use Rattle.common.proofs.Refusals.{number_some}
use Rattle.lists.{specs.Pad.pad, proofs.Pad.length_take_most}
use Rattle.duedays.specs.DueDays.{list_allowed}
use Rattle.meter.specs.{declared.Estimates.Estimates, Sharing.standing, Sharing.filled_with}
use Rattle.ledger.specs.{declared.Entry.Entry, Limits.capacity, Posting.Standing, Posting.standing as standing_of, Posting.stored}
use Rattle.ledger.specs.Entries.{asked, number_of as number_after, Within}
use Rattle.ledger.specs.{declared.Item.Item, declared.Queue.Queue, Posting.blank, Numbers.part, Numbers.ledger_of, Numbers.lying, Numbers.Lies}
use Rattle.ledger.proofs.{Queues.next_asked, Queues.next_same, Queues.gathered_is}
use Rattle.intake.specs.{declared.Call.Call, declared.Head.Head, Refusals.first_refusal}
use Rattle.intake.specs.Heads.{HeadBounds, EstimatesFit}
use Rattle.plan.specs.Plans.{added_on, changed, changed_on, Room, passed_plan, passed_volumes, planned_volumes}
use Rattle.plan.specs.{declared.Plan.Plan, declared.Change.Change}
use Rattle.plan.specs.declared.Change.TheVariants.{Kept, Cleared, Added}
use Rattle.closing.specs.Closing.{stored_estimates, StandingBounds}
use Rattle.plan.proofs.{Planning.passed_count, Planning.passed_volumes_lem, Bounds.change_room}
use Rattle.account.specs.{declared.Account.Account, declared.Outcome.Outcome, Calls.head_of, Calls.account_of, Calls.Work}
use Rattle.account.specs.{Outcomes.accepted, Outcomes.declined, Outcomes.outcome, Whole.whole}
use Rattle.account.proofs.Ready.{head_bounds, misses_most, estimates_within, whole_lying}
use Rattle.account.proofs.Carrying.{made, goes, outcome_quiet, outcome_asked, outcome_refused, places_few}
use Rattle.account.proofs.{Concluding.outcome_declined, Working.head_counted}
use Rattle.feeding.specs.Working.{account_in, Lain, EntersAs, Accepts, Comes}
use Rattle.feeding.specs.{declared.Worked.Worked, Reached.Reached}
use Rattle.feeding.proofs.Reached.{reached_whole, reached_tidy, reached_estimates}

-- What is known of the parts of a reached account.
module _ {holidays : List ℕ} {h : Head} {estimates : Estimates} {s : Standing} (l : Lain holidays h estimates s) where
  abbrev pub a : Account
  a = account_in h estimates s

  lain_whole : whole a ≡ true
  lain_whole = reached_whole holidays a l.reached

  lain_tidy : estimates ≡ stored_estimates (standing estimates)
  lain_tidy = reached_estimates holidays a l.reached

  pub lain_estimates : EstimatesFit h estimates
  lain_estimates =
      let most = misses_most a lain_whole in
      let count_is = ap (λ (e : Estimates). e.count) lain_tidy in
      let long = simp (length-append, length-replicate) at (ap (λ (e : Estimates). length e.periods) lain_tidy) in
      record {
        count_is = l.count_is;
        few = most;
        long = omega (arith, count_is, long, most);
        within = estimates_within a lain_whole;
      }

  pub lain_standing : StandingBounds (standing estimates)
  lain_standing =
      let few = length_take_most estimates.count estimates.periods in
      record { few = omega (arith, few, lain_estimates.few); within = lain_estimates.within }

  head_is : head_of a ≡ h
  head_is = head_counted h estimates (stored s) l.count_is

  pub lain_bounds : HeadBounds h
  lain_bounds = subst HeadBounds head_is (head_bounds a lain_whole)

  pub lain_within : Within s
  lain_within = whole_lying a s refl lain_whole

  -- The estimates behind a plan, where as many stand as before.
  pub same_changed : (p : Plan) → (changed p estimates).count ≡ estimates.count → changed p estimates ≡ estimates
  same_changed p = by_change p.change
    where
      By : Change → Type 0
      By change = let after = changed_on p.head.latest p.estimated p.net change estimates in after.count ≡ estimates.count → after ≡ estimates

      by_change : (change : Change) → By change
      by_change Kept e = refl
      by_change Cleared e = sym (lain_tidy ∙ ap stored_estimates (ap (λ n. take n estimates.periods) (sym e)))
      by_change (Added absent days fuel) e =
          let count_is = ap (λ (x : Estimates). x.count) lain_tidy in
          let added = added_on p.head.latest p.estimated p.net absent days fuel in
          absurd (omega (arith, e, count_is, length-append (standing estimates) (added ∷ [])))

  -- A refusal that is handed up.
  refused_comes : (o : Outcome) (x : Refusal) (after : Standing) (volumes : List ℕ) → o ≡ declined a (number_of x) → after ≡ s
      → (r : Result Worked Refusal) → IsErrAnd r (λ y. y ≡ x) → Comes h estimates s o r after volumes
  refused_comes o x after volumes e same (Ok w) is = absurd is
  refused_comes o x after volumes e same (Err y) is = (e ∙ ap (λ z. declined a (number_of z)) (sym is), same)

  module _ (listed : list_allowed holidays ≡ true) (call : Call) where
    abbrev o : Outcome
    o = outcome holidays a call

    -- 1 to 11
    pub first_comes : (x : Refusal) (volumes : List ℕ) → number_of x ≡ first_refusal h call → (r : Result Worked Refusal)
        → IsErrAnd r (λ y. y ≡ x) → Comes h estimates s o r s volumes
    first_comes x volumes number_is =
        let some = number_some x in
        refused_comes o x s volumes
        (outcome_declined holidays a call listed lain_whole (number_of x) (rw head_is number_is) (λ z. absurd (omega arith))) refl

    module _ (first : first_refusal h call ≡ 0) (after : Standing) (volumes : List ℕ) where
      abbrev plan : Plan
      plan = passed_plan h (standing estimates) call

      abbrev final : List ℕ
      final = passed_volumes h (standing estimates) call

      abbrev work : Standing → ℕ → Work
      work = made holidays h estimates s call first lain_estimates

      -- 12 and 13
      pub last_comes : (x : Refusal) → EntersAs holidays plan.entry s (Err x) after → (r : Result Worked Refusal)
          → IsErrAnd r (λ y. y ≡ x) → Comes h estimates s o r after volumes
      last_comes x = go plan.entry refl
        where
          go : (asks : Option Entry) → plan.entry ≡ asks → EntersAs holidays asks s (Err x) after → (r : Result Worked Refusal)
              → IsErrAnd r (λ y. y ≡ x) → Comes h estimates s o r after volumes
          go None asks enters = absurd (let never = enters.0 in cc)
          go (Some entry) asks enters =
              let some = number_some x in
              let other : number_after (asked holidays entry s) ≡ 0 → ⊥ = λ z. absurd (omega (arith, enters.tells, z)) in
              refused_comes o x after volumes
              (outcome_refused holidays h estimates s call first lain_estimates listed lain_whole lain_within entry asks (number_of x)
              enters.tells (λ z. absurd (omega arith)))
              (enters.stands ∙ next_same holidays entry s other)

      -- Accepted, with the volumes that its plan shows.
      module _ (interest : ℕ) (shown : take plan.count volumes ≡ final) where
        abbrev pub Done : Type 0
        Done = Accepts estimates o (record { plan = plan; interest = interest }) after volumes

        accepted_comes : (x : Standing) (m : ℕ) → o ≡ accepted (work x m) → after ≡ x → interest ≡ m → length x.open_items ≤ capacity → Done
        accepted_comes x m e same interest_is few =
            let g = goes holidays h estimates s call first lain_estimates volumes shown x m e few in
            rw (same, interest_is) (record {
              account_is = g.account_is;
              answer_is = g.answer_is;
              counted = g.counted;
              room = subst (λ n. Room plan.change n) (sym l.count_is) (change_room h (standing estimates) call first);
              shown = ap length shown ∙ sym (passed_count h (standing estimates) call);
            })

        pub entered_comes : EntersAs holidays plan.entry s (Ok interest) after → Done
        entered_comes = go plan.entry refl
          where
            go : (asks : Option Entry) → plan.entry ≡ asks → EntersAs holidays asks s (Ok interest) after → Done
            go None asks enters =
                let zero : interest ≡ 0 = let same = enters.0 in cc in
                accepted_comes s 0 (outcome_quiet holidays h estimates s call first lain_estimates listed lain_whole lain_within asks)
                enters.1 zero lain_within.count_most
            go (Some entry) asks enters =
                let none = sym enters.tells in
                accepted_comes _ _
                (outcome_asked holidays h estimates s call first lain_estimates listed lain_whole lain_within entry asks none)
                (enters.stands ∙ next_asked holidays entry s none) enters.interest (places_few holidays entry s none)

-- The volumes of a call that passes, at the front of an array.
pub shown_first : (h : Head) (estimates : Estimates) (call : Call) → first_refusal h call ≡ 0 → (before volumes : List ℕ)
    → volumes ≡ filled_with (planned_volumes h (standing estimates) call) before
    → take (passed_plan h (standing estimates) call).count volumes ≡ passed_volumes h (standing estimates) call
shown_first h estimates call first before volumes is =
    let stand = standing estimates in
    let final = passed_volumes h stand call in
    let volumes-are = is ∙ ap (λ v. filled_with v before) (passed_volumes_lem h stand call first) in
    (λ i. take (passed_count h stand call i) (volumes-are i)) ∙ take-append_seam final (drop (length final) before)

-- The parts of a reached account.
module _ {holidays : List ℕ} {a : Account} (reached : Reached holidays a) {h : Head} (head_is : h ≡ head_of a) {s : Standing}
    (items_are : s ≡ standing_of a.ledger) where
  pub account_spread : account_in h a.estimates s ≡ a
  account_spread =
      (λ i. account_in (head_is i) a.estimates (items_are i)) ∙
      ap (account_of (head_of a) a.estimates) (sym (reached_tidy holidays a reached))

  pub lain_spread : Lain holidays h a.estimates s
  lain_spread = record { count_is = sym (ap (λ (x : Head). x.standing) head_is); reached = rw account_spread reached }

-- And of one whose items are gathered.
pub account_gathered : {items : List Item} {q : Queue} (h : Head) (estimates : Estimates) → Lies items q → q.count ≤ capacity
    → account_of h estimates (ledger_of q (pad capacity blank (part q.front q.count items))) ≡ account_in h estimates (lying items q)
account_gathered h estimates w few = ap (account_of h estimates) (gathered_is w few)

-- The parts of an account behind a line.
pub lain_turned : {holidays : List ℕ} {a : Account} {h : Head} {estimates : Estimates} {s : Standing}
    → account_in h estimates s ≡ a → estimates.count ≡ h.standing → Reached holidays a → Lain holidays h estimates s
lain_turned is count reached = record { count_is = count; reached = rw is reached }
