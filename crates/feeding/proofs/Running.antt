-- A run of lines under way, line by line. Assumes nothing.
use Rattle.common.proofs.Words.{◌≡◌, refl, sym, ap, ◌∙◌, true, List, ℕ, ◌+◌, ◌-◌, ◌≤◌, sub-zero, arith, length, length-sets, take, drop}
use borrow.Rule.Slice.PartMut.{put_mid}
use Rattle.meter.specs.declared.Estimates.{Estimates}
use Rattle.ledger.specs.Posting.{Standing}
use Rattle.intake.specs.declared.Head.{Head}
use Rattle.account.specs.{declared.Answer.Answer, declared.Outcome.Outcome}
use Rattle.std.specs.Prelude.{Option, Some, None, Result, Ok, Err}
use Rattle.common.specs.{declared.Refusal.Refusal, Refusals.number_of}
use Rattle.plan.specs.Plans.{changed}
use Rattle.account.specs.Outcomes.{declining, outcome}
use Rattle.common.specs.declared.Refusal.TheVariants.{NotAFrame}
use Rattle.duedays.specs.DueDays.{list_allowed}
use Rattle.frames.specs.{declared.Frame.Frame, Numbers.call_of}
use Rattle.lines.specs.declared.Next.TheVariants.{NoFrame}
use Rattle.lines.specs.declared.Next.TheVariants as variants
use Rattle.intake.specs.declared.Call.{Call}
use Rattle.frames.specs.Digits.{written}
use Rattle.answers.specs.Answers.{answer_line, longest_answer}
use Rattle.answers.proofs.Writing.{written_in_part}
use Rattle.lines.specs.{Begun.Begun, Feeding.feeding}
use Rattle.lines.specs.{declared.Found.Found, declared.Next.Next, declared.State.State, Line.parsed_outcome}
use Rattle.lines.specs.Going.{state, fed_from, read_as, Finds}
use Rattle.lines.proofs.Feeding.{Ahead, ahead_start, ahead_leads, ahead_done, ahead_text}
use Rattle.lines.proofs.Going.{input_ended, ahead_turn}
use Rattle.feeding.specs.Working.{account_in, account_on, state_on, Feedable, answer_of, Accepts, Comes, Runs}
use Rattle.feeding.specs.{declared.Desk.Desk, declared.Went.Went, declared.Worked.Worked}
use Rattle.feeding.proofs.{Reached.reached_parsed, Entering.same_changed, Entering.lain_turned}

abbrev pub went_to : ℕ → ℕ → Went
went_to taken place = record { taken = taken; written = place }

-- A desk with this on it.
abbrev pub desk_of : Head → Estimates → Standing → Begun → Desk
desk_of h estimates items line = record { head = h; estimates = estimates; items = items; line = line }

-- What the whole piece makes of a state is what was written, with what the rest makes of the state that lies on the desk.
pub record Running (holidays input text : List ℕ) (s : State) (d : Desk) (out : List ℕ) (w : Went) : Type 0 where
  pub within : w.taken ≤ length input
  pub out_long : length out ≡ length text
  pub placed : w.written ≤ length text
  pub feedable : Feedable holidays d
  pub ahead :
      Ahead (feeding holidays (length text) s input) text w.taken w.written
      (fed_from holidays input w.taken (length text - w.written) (state_on d)) out

pub running_start : (holidays input text : List ℕ) (d : Desk) → Feedable holidays d
    → Running holidays input text (state_on d) d text (went_to 0 0)
running_start holidays input text d feedable =
    record {
      within = omega arith;
      out_long = refl;
      placed = omega arith;
      feedable = feedable;
      ahead = rw (sub-zero (length text)) (ahead_start _ _);
    }

-- A line worked: what it was read as, and what comes of it.
pub record Turned (holidays : List ℕ) (d : Desk) (next : Next) (line : Begun) (r : Result Worked Refusal) (after : Desk) (volumes : List ℕ)
    : Type 0 where
  pub read : Option Call
  pub is : read_as next ≡ Some read
  pub estimates_same : after.estimates ≡ d.estimates
  pub line_is : after.line ≡ line
  pub comes : Comes d.head d.estimates d.items (parsed_outcome holidays (account_on d) read) r after.items volumes

module _ {holidays : List ℕ} (listed : list_allowed holidays ≡ true) {d : Desk} {next : Next} {line : Begun}
    {r : Result Worked Refusal} {after : Desk} {volumes : List ℕ} where
  pub none_turned : next ≡ NoFrame → r ≡ Err NotAFrame → (h : Head) → after ≡ desk_of h d.estimates d.items line
      → Turned holidays d next line r after volumes
  none_turned none refused h same =
      record {
        read = None;
        is = ap read_as none;
        estimates_same = ap (λ (x : Desk). x.estimates) same;
        line_is = ap (λ (x : Desk). x.line) same;
        comes = rw (listed, refused, same) (refl, refl);
      }

  pub call_turned : (frame : Frame) → next ≡ variants.Frame frame → (h : Head) (items : Standing) → after ≡ desk_of h d.estimates items line
      → Comes d.head d.estimates d.items (outcome holidays (account_on d) (call_of frame)) r items volumes
      → Turned holidays d next line r after volumes
  call_turned frame read h items same comes =
      record {
        read = Some (call_of frame);
        is = ap read_as read;
        estimates_same = ap (λ (x : Desk). x.estimates) same;
        line_is = ap (λ (x : Desk). x.line) same;
        comes = rw (listed, same) comes;
      }

module _ (before : Desk) {holidays input text : List ℕ} {d : Desk} {out : List ℕ} {w : Went}
    (g : Running holidays input text (state_on before) d out w) where
  -- The input ended.
  pub running_ended : length input ≤ w.taken → Runs holidays input text before d out w
  running_ended none =
      let stops = input_ended holidays input w.taken (length text - w.written) (state_on d) none in
      let done = ahead_leads g.ahead stops in
      record {
        fed = ahead_done done;
        text_is = ahead_text done;
        taken_most = g.within;
        written_most = g.placed;
        feedable = g.feedable;
      }

  -- The next line was looked for.
  module _ {line : Begun} {n : Found} (looked : Finds input w.taken (length out - w.written) d.line line n) where
    -- It has not ended.
    pub running_waits : read_as n.next ≡ None
        → Runs holidays input text before (desk_of d.head d.estimates d.items line) out (went_to n.taken w.written)
    running_waits waits =
        let found = rw g.out_long at looked in
        let done = ahead_leads g.ahead (found.waits waits holidays (account_on d)) in
        record {
          fed = ahead_done done;
          text_is = ahead_text done;
          taken_most = found.within;
          written_most = g.placed;
          feedable = g.feedable;
        }

    -- It ended, and was worked and answered.
    module _ (answer : Answer) (part : List ℕ)
        (part_is : part ≡ written (take (length out - w.written) (drop w.written out)) 0 (answer_line answer))
        (size : ℕ) (size_is : size ≡ length (answer_line answer)) (few : size ≤ longest_answer) where
      abbrev Goes_on : Head → Estimates → Standing → Type 0
      Goes_on h estimates items =
          Running holidays input text (state_on before) (desk_of h estimates items line)
          (put_mid w.written (length out - w.written) out part) (went_to n.taken (w.written + size))

      running_on : (read : Option Call) → read_as n.next ≡ Some read → (h : Head) (estimates : Estimates) (items : Standing)
          → account_in h estimates items ≡ (parsed_outcome holidays (account_on d) read).account → estimates.count ≡ h.standing
          → answer ≡ (parsed_outcome holidays (account_on d) read).answer → Goes_on h estimates items
      running_on read is h estimates items account_is counted answer_is =
          let found = rw g.out_long at looked in
          let text_of = answer_line answer in
          let room = (looked.ended read is).room_left in
          let out_is = written_in_part out w.written text_of (omega (arith, room, size_is, few)) part_is in
          let o = parsed_outcome holidays (account_on d) read in
          let ends = found.ended read is in
          let reached = reached_parsed holidays (account_on d) read g.feedable.reached in
          record {
            within = found.within;
            out_long = ap length out_is ∙ length-sets out w.written text_of ∙ g.out_long;
            placed = omega (arith, few, ends.room_left, g.placed);
            feedable = lain_turned account_is counted reached;
            ahead =
                ahead_turn holidays input (length text) (state_on d) o g.ahead (ends.leads holidays (account_on d)) answer_is
                out_is (ap (λ k. w.written + k) size_is)
                (λ i. state (account_is i) (ends.none_begun i));
          }

      -- Accepted, its estimates changed or as many as before.
      module _ {worked : Worked} {r : Result Worked Refusal} {after : Desk} {volumes : List ℕ}
          (t : Turned holidays d n.next line r after volumes) (done : r ≡ Ok worked)
          (answered : answer ≡ answer_of worked volumes after.items) {h : Head} (head_is : h ≡ worked.plan.head) where
        come : Accepts d.estimates (parsed_outcome holidays (account_on d) t.read) worked after.items volumes
        come = rw done at t.comes

        abbrev changed_to : Estimates
        changed_to = changed worked.plan d.estimates

        pub running_changed : {estimates : Estimates} → estimates ≡ changed worked.plan after.estimates
            → Goes_on h estimates after.items
        running_changed is =
            rw (is, t.estimates_same, head_is)
            (running_on t.read t.is worked.plan.head changed_to after.items come.account_is come.counted (answered ∙ come.answer_is))

        pub running_kept : h.standing ≡ after.estimates.count → Goes_on h after.estimates after.items
        running_kept e =
            let count = come.counted ∙ sym (ap (λ (x : Head). x.standing) head_is) ∙ e ∙ ap (λ (x : Estimates). x.count) t.estimates_same in
            let same = same_changed g.feedable worked.plan count in
            running_changed (t.estimates_same ∙ sym same ∙ ap (changed worked.plan) (sym t.estimates_same))

      -- Refused.
      pub running_refused : (refusal : Refusal) {r : Result Worked Refusal} {after : Desk} {volumes : List ℕ}
          → Turned holidays d n.next line r after volumes → r ≡ Err refusal → {h : Head} → h ≡ d.head
          → answer ≡ declining (number_of refusal) → Goes_on h after.estimates after.items
      running_refused refusal t done head_is answered =
          let come = rw done at t.comes in
          let outcome_is = come.0 in
          rw (head_is, t.estimates_same, come.1)
          (running_on t.read t.is d.head d.estimates d.items (sym (ap (λ (x : Outcome). x.account) outcome_is))
          g.feedable.count_is (answered ∙ sym (ap (λ (x : Outcome). x.answer) outcome_is)))
