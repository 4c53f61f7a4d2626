-- Laws of feeding. Assumes nothing.
use Rattle.common.proofs.Words.{◌≡◌, refl, sym, ap, ◌∙◌, Bool, true, false, List, [], ◌∷◌, ℕ, ◌+◌, ◌-◌, ◌≤◌, ◌<◌, not-suc-le-zero, zero-add}
use Rattle.common.proofs.Words.{add-zero, arith, add-one, eqb, length, set, length-append, eq-eqb, ne_eqb, lt-ltb, le-ltb}
use Rattle.frames.specs.Digits.{written, line_feed}
use Rattle.answers.specs.Answers.{answer_line, longest_answer}
use Rattle.answers.proofs.Writing.{written_behind}
use Rattle.lines.specs.Begun.{Begun, kept_most, keeping}
use Rattle.lines.specs.Feeding.{kept, line_ends, ended, Feeding, nothing, behind, feeding, finishing, fed_of}
use Rattle.lines.specs.{declared.State.State, Going.Leads, Going.writing}

-- Of the input's next byte, the three ways.
module _ (holidays : List ℕ) (room : ℕ) (s : State) (c : ℕ) (cs : List ℕ) where
  pub feed_ends : c ≡ line_feed → longest_answer ≤ room
      → let answer = answer_line (line_ends holidays s).answer in
      feeding holidays room s (c ∷ cs) ≡ behind answer (feeding holidays (room - length answer) (ended holidays s) cs)
  unfolding feeding
  feed_ends e h = rw (eq-eqb c line_feed e, le-ltb room longest_answer h) refl

  pub feed_stops : c ≡ line_feed → room < longest_answer → feeding holidays room s (c ∷ cs) ≡ nothing s
  unfolding feeding
  feed_stops e h = rw (eq-eqb c line_feed e, lt-ltb room longest_answer h) refl

  pub feed_keeps : (c ≡ line_feed → ⊥) → feeding holidays room s (c ∷ cs) ≡ behind [] (feeding holidays room (kept s c) cs)
  unfolding feeding
  feed_keeps n = rw (ne_eqb c line_feed n) refl

-- A character is kept where there is room for it.
pub kept_within : (b : Begun) (c : ℕ) → b.length < kept_most
    → keeping b c ≡ record { length = b.length + 1; characters = set b.characters b.length c }
kept_within b c h = rw (lt-ltb b.length kept_most h, add-one b.length) refl

-- Where as many are kept as can be, it passes by.
pub kept_full : (b : Begun) (c : ℕ) → kept_most ≤ b.length → keeping b c ≡ b
kept_full b c h = rw (le-ltb b.length kept_most h) refl

-- A feeding under way: the whole is what is done, with what the rest makes behind it.
pub record Ahead (whole : Feeding) (text : List ℕ) (taken place : ℕ) (rest : Feeding) (out : List ℕ) : Type 0 where
  pub same_state : whole.state ≡ rest.state
  pub same_text : written text 0 whole.output ≡ written out place rest.output
  pub same_taken : whole.taken ≡ taken + rest.taken
  pub same_length : length whole.output ≡ place + length rest.output

pub ahead_start : (whole : Feeding) (text : List ℕ) → Ahead whole text 0 0 whole text
ahead_start whole text =
    record {
      same_state = refl;
      same_text = refl;
      same_taken = sym (zero-add whole.taken);
      same_length = sym (zero-add (length whole.output));
    }

module _ {whole : Feeding} {text : List ℕ} {taken place : ℕ} {out : List ℕ} where
  pub ahead_leads : {from : ℕ} {f g : Feeding} → Ahead whole text from place f out → Leads from taken f g
      → Ahead whole text taken place g out
  ahead_leads a l =
      record {
        same_state = a.same_state ∙ l.same_state;
        same_text = a.same_text ∙ ap (written out place) l.same_output;
        same_taken = a.same_taken ∙ l.same_taken;
        same_length = a.same_length ∙ ap (λ xs. place + length xs) l.same_output;
      }

  -- What is to be written first was written.
  pub ahead_put : {rest : Feeding} (xs : List ℕ) → Ahead whole text taken place (writing xs rest) out
      → Ahead whole text taken (place + length xs) rest (written out place xs)
  ahead_put {rest} xs a =
      record {
        same_state = a.same_state;
        same_text = a.same_text ∙ written_behind out place xs rest.output;
        same_taken = a.same_taken;
        same_length = a.same_length ∙ rw (length-append xs rest.output) (omega arith);
      }

  -- Nothing is left to be done.
  module _ {s : State} (a : Ahead whole text taken place (nothing s) out) where
    pub ahead_done : record { state = s; taken = taken; written = place } ≡ fed_of whole
    ahead_done = rw (a.same_state, a.same_taken, a.same_length, add-zero taken, add-zero place) refl

    pub ahead_text : out ≡ written text 0 whole.output
    ahead_text = sym a.same_text

-- At the end of the input.
pub finish_none : (holidays : List ℕ) (room : ℕ) (s : State) → s.line.length ≡ 0 → finishing holidays room s ≡ nothing s
unfolding finishing
finish_none holidays room s e = rw (eq-eqb s.line.length 0 e) refl

pub finish_line : (holidays : List ℕ) (room : ℕ) (s : State) → (s.line.length ≡ 0 → ⊥)
    → finishing holidays room s ≡ feeding holidays room s (line_feed ∷ [])
unfolding finishing
finish_line holidays room s n = rw (ne_eqb s.line.length 0 n) refl

-- Where there is room for a line, feeding goes on.
pub taken_some : (holidays : List ℕ) (room : ℕ) (s : State) (bytes : List ℕ) → longest_answer ≤ room → 1 ≤ length bytes
    → 1 ≤ (feeding holidays room s bytes).taken
unfolding feeding
taken_some holidays room s [] h k = absurd (not-suc-le-zero k)
taken_some holidays room s (c ∷ cs) h k = go (eqb c line_feed) refl
  where
    go : (b : Bool) → eqb c line_feed ≡ b → 1 ≤ (feeding holidays room s (c ∷ cs)).taken
    go true e = rw (e, le-ltb room longest_answer h) (omega arith)
    go false e = rw e (omega arith)
