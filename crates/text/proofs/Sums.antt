-- Both sums for the calls of an input. Assumes nothing.
use Rattle.common.proofs.Words.{◌≡◌, refl, List, [], ◌∷◌, ℕ, ◌+◌, zero-add, arith}
use Rattle.std.specs.Prelude.{Some, None}
use Rattle.lists.specs.Sum.{total}
use Rattle.common.proofs.Cases.{by_test}
use Rattle.duedays.specs.DueDays.{list_allowed}
use Rattle.account.specs.{declared.Account.Account, declared.Answer.Answer, Outcomes.outcome}
use Rattle.account.proofs.Concluding.{outcome_not_listed}
use Rattle.intake.specs.declared.Call.{Call}
use Rattle.audit.specs.Claim.{Run, start, step, run, final_volume}
use Rattle.audit.proofs.Theorem.{reconciled}
use Rattle.frames.specs.Frames.{parsed}
use Rattle.lines.specs.Line.{parsed_outcome}
use Rattle.text.specs.Output.{answers_of, account_after, calls_in, calls_of}
use Rattle.text.specs.Pieces.{Sums}

-- A line that is a frame comes to what its call comes to, also where the list breaks its bounds; one that is none changes nothing.
frame_outcome : (holidays : List ℕ) (a : Account) (call : Call) → parsed_outcome holidays a (Some call) ≡ outcome holidays a call
frame_outcome holidays a call =
    by_test (list_allowed holidays) (λ e. rw e) (λ e. rw (e, outcome_not_listed holidays a call e))

no_frame_account : (holidays : List ℕ) (a : Account) → (parsed_outcome holidays a None).account ≡ a
no_frame_account holidays a = by_test (list_allowed holidays) (λ e. rw e) (λ e. rw e)

-- The account that lines leave is the one that their calls leave: a line that is no frame changes nothing.
pub account_run : (holidays : List ℕ) (lines : List (List ℕ)) (r : Run)
    → account_after holidays r.account lines ≡ (run holidays r (calls_of lines)).account
unfolding account_after run
account_run holidays [] r = refl
account_run holidays (line ∷ lines) r =
    elim (parsed line) as (λ p.
    account_after holidays (parsed_outcome holidays r.account p).account lines ≡ (run holidays r (calls_in p (calls_of lines))).account) [
      | Some call ↦ rw (frame_outcome holidays r.account call) (account_run holidays lines (step holidays r call))
      | None ↦ rw (no_frame_account holidays r.account) (account_run holidays lines r)
    ]

-- And the volumes that the answers show are those of the calls' answers.
abbrev final : List Answer → ℕ
final answers = total final_volume answers

no_frame_volume : (holidays : List ℕ) (a : Account) → final_volume (parsed_outcome holidays a None).answer ≡ 0
no_frame_volume holidays a = by_test (list_allowed holidays) (λ e. rw e) (λ e. rw e)

volumes_run : (holidays : List ℕ) (lines : List (List ℕ)) (r : Run)
    → final (answers_of holidays r.account lines) + final r.answers ≡ final (run holidays r (calls_of lines)).answers
unfolding answers_of run
volumes_run holidays [] r = zero-add (final r.answers)
volumes_run holidays (line ∷ lines) r =
    elim (parsed line)
    as (λ p.
    let o = parsed_outcome holidays r.account p in
    final_volume o.answer + final (answers_of holidays o.account lines) + final r.answers
    ≡ final (run holidays r (calls_in p (calls_of lines))).answers) [
      | Some call ↦ rw (frame_outcome holidays r.account call) (omega (arith, volumes_run holidays lines (step holidays r call)))
      | None ↦
          rw (no_frame_account holidays r.account)
          (omega (arith, no_frame_volume holidays r.account, volumes_run holidays lines r))
    ]

pub sums : (holidays : List ℕ) (lines : List (List ℕ)) → Sums holidays lines
sums holidays lines =
    let claim = reconciled holidays (calls_of lines) in
    record {
      volumes = omega (arith, volumes_run holidays lines start, claim.volumes);
      yen = rw (account_run holidays lines start) claim.yen;
    }
