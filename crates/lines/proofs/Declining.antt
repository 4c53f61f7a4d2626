-- A piece by a list that breaks its bounds, under way: every line is answered 14. Assumes nothing.
use Rattle.std.specs.Prelude.{Option}
use Rattle.intake.specs.declared.Call.{Call}
use Rattle.common.proofs.Words.{◌≡◌, refl, sym, inl, inr, ap, ◌∙◌, false, List, ℕ, ◌+◌, ◌-◌, ◌≤◌, ◌<◌, arith, length, take, eqb, eqb-true, eqb-false}
use Rattle.common.proofs.Cases.{by_test}
use Rattle.duedays.specs.DueDays.{list_allowed}
use Rattle.account.specs.{declared.Account.Account, declared.Outcome.Outcome, Outcomes.declined, Outcomes.declining}
use Rattle.frames.specs.{Digits.written, Frames.parsed}
use Rattle.answers.specs.Answers.{answer_line, longest_answer}
use Rattle.lines.specs.Begun.{Begun, none_begun}
use Rattle.lines.specs.Feeding.{nothing, between, feeding}
use Rattle.lines.specs.{declared.State.State, Line.parsed_outcome, Going.state, Going.fed_from}
use Rattle.lines.specs.Going.{Keeps, Declines}
use Rattle.lines.proofs.Feeding.{Ahead, ahead_leads, ahead_done, ahead_text}
use Rattle.lines.proofs.Going.{input_ended, ahead_turn, found_waits, kept_ends}

-- By every such list, what the whole piece makes of a state is what was written, with what the rest makes of the account, which stays.
pub record Declining (input text : List ℕ) (s : State) (taken place : ℕ) (line : Begun) (out : List ℕ) : Type 0 where
  pub within : taken ≤ length input
  pub out_long : length out ≡ length text
  pub placed : place ≤ length text
  pub ahead : (holidays : List ℕ) → list_allowed holidays ≡ false
      → Ahead (feeding holidays (length text) s input) text taken place
      (fed_from holidays input taken (length text - place) (state s.account line)) out

-- The answer to a line.
declined_line : (holidays : List ℕ) → list_allowed holidays ≡ false → (a : Account) (line : Option Call)
    → parsed_outcome holidays a line ≡ declined a 14
declined_line holidays unlisted a line = rw unlisted refl

-- Nothing is left that could be done.
declines : {holidays input text : List ℕ} {s : State} {taken place : ℕ} {line : Begun} {out : List ℕ}
    → Ahead (feeding holidays (length text) s input) text taken place (nothing (state s.account line)) out
    → taken ≤ length input → place ≤ length text
    → Declines holidays input text s out (record { state = state s.account line; taken = taken; written = place })
declines done within placed =
    record {
      fed = ahead_done done;
      text_is = ahead_text done;
      taken_most = within;
      written_most = placed;
      account_is = refl;
    }

module _ {input text : List ℕ} {s : State} {taken place : ℕ} {line : Begun} {out : List ℕ} (d : Declining input text s taken place line out) where
  -- The input ended.
  pub declining_ended : length input ≤ taken → (holidays : List ℕ) → list_allowed holidays ≡ false
      → Declines holidays input text s out (record { state = state s.account line; taken = taken; written = place })
  declining_ended none holidays unlisted =
      let stops = input_ended holidays input taken (length text - place) (state s.account line) none in
      declines (ahead_leads (d.ahead holidays unlisted) stops) d.within d.placed

  -- A line's characters were kept.
  module _ {kept : Begun} {end : ℕ} (k : Keeps input taken line kept end) where
    abbrev room : ℕ
    room = length text - place

    -- The input ended, or the room did.
    pub declining_waits : (end < length input → length out - place < longest_answer)
        → (holidays : List ℕ) → list_allowed holidays ≡ false
        → Declines holidays input text s out (record { state = state s.account kept; taken = end; written = place })
    declining_waits stops holidays unlisted =
        let found = found_waits k room (by_test (eqb end (length input)) (λ e. inl (eqb-true end (length input) e))
        (λ e.
        let not_all = eqb-false end (length input) e in
        inr (not_all, rw d.out_long at (stops (omega (arith, k.within, not_all)))))) in
        declines (ahead_leads (d.ahead holidays unlisted) (found.waits refl holidays s.account)) found.within d.placed

    -- The line ended, and was answered.
    pub declining_on : end < length input → longest_answer ≤ length out - place
        → {out' : List ℕ} → length out' ≡ length out → out' ≡ written out place (answer_line (declining 14))
        → {place' : ℕ} → place' ≡ place + length (answer_line (declining 14)) → place' ≤ place + longest_answer
        → {line' : Begun} → line' ≡ none_begun → Declining input text s (end + 1) place' line' out'
    declining_on more wide long out_is place_is few none =
        let left : longest_answer ≤ room = rw d.out_long at wide in
        let read = parsed (take kept.length kept.characters) in
        record {
          within = omega arith;
          out_long = long ∙ d.out_long;
          placed = omega (arith, few, left, d.placed);
          ahead = λ holidays unlisted.
              let is = declined_line holidays unlisted s.account read in
              ahead_turn holidays input (length text) (state s.account line) (parsed_outcome holidays s.account read)
              (d.ahead holidays unlisted) (kept_ends k room more left holidays s.account refl)
              (sym (ap (λ (o : Outcome). o.answer) is)) out_is place_is
              (ap (state s.account) none ∙ ap (λ (o : Outcome). between o.account) (sym is));
        }
