-- What a call comes to by its plan, on an account of which these items stand. Assumes nothing.
use Rattle.std.specs.Prelude.{None, Some}
use Rattle.common.proofs.Words.{◌≡◌, refl, sym, ap, ◌∙◌, true, List, ℕ, ◌≤◌, arith, length, take, le-leb, ne_eqb}
use Rattle.duedays.specs.DueDays.{list_allowed}
use Rattle.meter.specs.declared.Estimates.{Estimates}
use Rattle.ledger.specs.Entries.{asked, number_of, interest_posted, Within}
use Rattle.ledger.specs.{declared.Entry.Entry, declared.Ledger.Ledger}
use Rattle.ledger.specs.{Limits.capacity, Limits.most_credit, Settling.unpaid_of, Posting.Standing, Posting.stored}
use Rattle.ledger.proofs.{Bounds.standing_stored, Within.number_passes}
use Rattle.intake.specs.{declared.Head.Head, declared.Call.Call, Refusals.first_refusal, Heads.EstimatesFit}
use Rattle.plan.specs.{declared.Plan.Plan, Plans.changed, Plans.passed_plan, Plans.passed_volumes}
use Rattle.plan.proofs.Bounds.{counted}
use Rattle.account.specs.Outcomes.{acceptance, accepted, declined, concluded, outcome}
use Rattle.account.specs.{declared.Account.Account, Calls.head_of, Calls.Work, Calls.account_of, Whole.whole, Refusals.last_refusal}
use Rattle.account.specs.Works.{work_of}
use Rattle.account.proofs.{Concluding.outcome_concluded, Working.head_counted, Working.plan_works}
use Rattle.meter.specs.Sharing as Sharing

-- 12 and 13 decline nothing on a ledger that keeps to them.
pub last_none : (ledger : Ledger) → ledger.count ≤ capacity → ledger.credit ≤ most_credit → last_refusal ledger ≡ 0
last_none ledger few credit = rw (le-leb _ _ few, le-leb _ _ credit)

-- An entry that is not refused leaves a place for every item.
pub places_few : (holidays : List ℕ) (e : Entry) (s : Standing) → number_of (asked holidays e s) ≡ 0
    → length (asked holidays e s).open_items ≤ capacity
places_few holidays e s z = (number_passes (length (asked holidays e s).open_items) (asked holidays e s).credit z).count_most

-- A call on an account of this head.
module _ (holidays : List ℕ) (h : Head) (estimates : Estimates) (s : Standing) (call : Call) where
  abbrev a : Account
  a = account_of h estimates (stored s)

  -- And where its plan is carried out.
  module _ (first : first_refusal h call ≡ 0) (fit : EstimatesFit h estimates) where
    abbrev p : Plan
    p = passed_plan h (Sharing.standing estimates) call

    abbrev final : List ℕ
    final = passed_volumes h (Sharing.standing estimates) call

    abbrev pub made : Standing → ℕ → Work
    made x interest =
        record {
          account = account_of p.head (changed p estimates) (stored x);
          estimated = p.estimated;
          volumes = final;
          net = p.net;
          interest = interest;
        }

    -- It comes to the call's outcome where these items stand behind it.
    pub record Goes (after : Standing) (interest : ℕ) (volumes : List ℕ) : Type 0 where
      pub account_is : account_of p.head (changed p estimates) (stored after) ≡ (outcome holidays a call).account
      pub answer_is :
          acceptance p.estimated (take p.count volumes) p.net interest (unpaid_of after.open_items) after.credit ≡
          (outcome holidays a call).answer
      pub counted : (changed p estimates).count ≡ p.head.standing

    pub goes : (volumes : List ℕ) → take p.count volumes ≡ final → (x : Standing) (interest : ℕ)
        → outcome holidays a call ≡ accepted (made x interest) → length x.open_items ≤ capacity → Goes x interest volumes
    goes volumes shown x interest e few =
        let back = standing_stored x few in
        record {
          account_is = rw e refl;
          answer_is =
              rw (e, shown)
              (ap (λ (y : Standing). acceptance p.estimated final p.net interest (unpaid_of y.open_items) x.credit) (sym back));
          counted = counted h estimates fit.count_is (omega (arith, fit.few, fit.long)) call;
        }

    module _ (listed : list_allowed holidays ≡ true) (w : whole a ≡ true) (within : Within s) where
      -- the head of that account
      head_is : head_of a ≡ h
      head_is = head_counted h estimates (stored s) fit.count_is

      concludes : outcome holidays a call ≡ concluded a (work_of holidays p final estimates (stored s))
      concludes =
          outcome_concluded holidays a call listed w (rw head_is first) ∙
          ap (concluded a) (rw head_is at (sym (plan_works holidays a call)))

      pub outcome_quiet : p.entry ≡ None → outcome holidays a call ≡ accepted (made s 0)
      outcome_quiet f = rw (concludes, f, last_none (stored s) within.count_most within.credit_most)

      module _ (entry : Entry) (asks : p.entry ≡ Some entry) where
        asked_work : outcome holidays a call ≡ concluded a (made (asked holidays entry s) (interest_posted holidays entry s))
        asked_work =
            let back = standing_stored s within.count_most in
            rw (concludes, asks) (λ i. concluded a (made (asked holidays entry (back i)) (interest_posted holidays entry (back i))))

        pub outcome_asked : number_of (asked holidays entry s) ≡ 0
            → outcome holidays a call ≡ accepted (made (asked holidays entry s) (interest_posted holidays entry s))
        outcome_asked z = rw (asked_work, z)

        pub outcome_refused : (n : ℕ) → n ≡ number_of (asked holidays entry s) → (n ≡ 0 → ⊥) → outcome holidays a call ≡ declined a n
        outcome_refused n e some = rw (asked_work, ← e, ne_eqb n 0 some)
