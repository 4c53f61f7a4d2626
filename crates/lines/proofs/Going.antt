-- What the bytes of a line lead to. Assumes nothing.
use Rattle.std.specs.Prelude.{Option, Some, None}
use Rattle.common.proofs.Words.{◌≡◌, refl, sym, ◌⊎◌, inl, inr, ap, ◌∙◌, Bool, true, false, List, [], ◌∷◌, ◌++◌, ℕ, zero, suc, ◌+◌}
use Rattle.common.proofs.Words.{◌-◌, ◌≤◌, ◌<◌, add-zero, add-suc, arith, add-one, leb, length, get_or, set, take, drop, length-set}
use Rattle.common.proofs.Words.{length-drop, length-take, drop_of_length-le, drop-cons, take-suc, take-suc-set, get_or-drop, get_or-set_same, leb-true}
use Rattle.common.proofs.Words.{leb-false, eqb, eqb-true, eqb-false, ltb, ltb-false, min}
use Rattle.std.specs.{Bool.then_some, Option.option_map}
use Rattle.std.proofs.lemmas.Option.{same_Some}
use Rattle.std.specs.List.{between as part}
use Rattle.std.proofs.lemmas.{List.take-set, List.Elements.All-get_or, Slice.between_to_end}
use lib.Seq.{get_or-take}
use mathlib.Core.Logic.{◌≢◌}
use Rattle.common.proofs.Cases.{by_test}
use Rattle.lists.proofs.Every.{every_true, every_in_front}
use Rattle.account.specs.{declared.Account.Account, declared.Answer.Answer, declared.Outcome.Outcome}
use Rattle.intake.specs.declared.Call.{Call}
use Rattle.frames.specs.Numbers.{call_of, Begins, FrameAt}
use Rattle.frames.specs.declared.Frame.{Frame}
use Rattle.frames.specs.{Digits.is_digit, Digits.line_feed, Digits.written, Layout.longest_frame, Frames.parsed}
use Rattle.frames.proofs.{Frames.too_long, Numbers.call_digits, Numbers.begins_once, Numbers.digit_no_end}
use Rattle.answers.specs.Answers.{answer_line, longest_answer}
use Rattle.lines.specs.Begun.{Begun, kept_most, blank_line, begun_with, none_begun, keeping}
use Rattle.lines.specs.Feeding.{between, line_of, kept, Feeding, nothing, behind, feeding}
use Rattle.lines.specs.Going.{state, Leads, fed_from, fed_behind, NoEnd, Keeps, read_as, Finds, found_at}
use Rattle.lines.specs.declared.Next.{Next}
use Rattle.lines.specs.declared.Next.TheVariants as variants
use Rattle.lines.specs.{declared.State.State, Line.parsed_outcome}
use Rattle.lines.proofs.Feeding.{feed_ends, feed_stops, feed_keeps, kept_within, kept_full, Ahead, ahead_leads, ahead_put}

leads_nowhere : {from : ℕ} {f : Feeding} → Leads from from f f
leads_nowhere = record { same_state = refl; same_output = refl; same_taken = refl }

leads_on : {from at taken : ℕ} {f g h : Feeding} → Leads from at f g → Leads at taken g h → Leads from taken f h
leads_on l m =
    record {
      same_state = l.same_state ∙ m.same_state;
      same_output = l.same_output ∙ m.same_output;
      same_taken = l.same_taken ∙ m.same_taken;
    }

-- By what the next byte is.
module _ (holidays input : List ℕ) (at room : ℕ) (s : State) where
  pub input_ended : length input ≤ at → Leads at at (fed_from holidays input at room s) (nothing s)
  unfolding feeding
  input_ended h = rw (drop_of_length-le input h) leads_nowhere

  module _ (more : at < length input) where
    abbrev byte : ℕ
    byte = get_or input at 0

    next_byte : fed_from holidays input at room s ≡ feeding holidays room s (byte ∷ drop (suc at) input)
    next_byte = ap (feeding holidays room s) (drop-cons input at 0 more)

    byte_kept : (byte ≡ line_feed → ⊥) → {s' : State} → kept s byte ≡ s'
        → Leads at (at + 1) (fed_from holidays input at room s) (fed_from holidays input (at + 1) room s')
    byte_kept n e =
        let rest = drop (suc at) input in
        let is = next_byte ∙ feed_keeps holidays room s byte rest n ∙ ap (λ x. behind [] (feeding holidays room x rest)) e in
        rw (is, add-one at) (record { same_state = refl; same_output = refl; same_taken = omega arith })

    line_ends_lem : byte ≡ line_feed → longest_answer ≤ room → {p : Option Call} → parsed (line_of s) ≡ p
        → Leads at (at + 1) (fed_from holidays input at room s)
        (fed_behind holidays input (at + 1) room (parsed_outcome holidays s.account p))
    line_ends_lem e r is =
        let ends = next_byte ∙ feed_ends holidays room s byte (drop (suc at) input) e r in
        rw (ends, ← is, add-one at) (record { same_state = refl; same_output = refl; same_taken = omega arith })

    line_waits : byte ≡ line_feed → room < longest_answer → Leads at at (fed_from holidays input at room s) (nothing s)
    line_waits e r = rw (next_byte ∙ feed_stops holidays room s byte (drop (suc at) input) e r) leads_nowhere

-- A line kept so far: what the input makes from the line's start on is what it makes from `taken` on, of the characters kept.
pub record Keeping (input : List ℕ) (from : ℕ) (line₀ : Begun) (taken : ℕ) (line : Begun) : Type 0 where
  pub onward : from ≤ taken
  pub within : taken ≤ length input
  pub leads : (holidays : List ℕ) (a : Account) (room : ℕ)
      → Leads from taken (fed_from holidays input from room (state a line₀)) (fed_from holidays input taken room (state a line))

pub keeping_start : {input : List ℕ} {from : ℕ} {line₀ : Begun} → from ≤ length input → Keeping input from line₀ from line₀
keeping_start within = record { onward = omega arith; within = within; leads = λ holidays a room. leads_nowhere }

module _ {input : List ℕ} {from : ℕ} {line₀ : Begun} {taken : ℕ} {line : Begun} (k : Keeping input from line₀ taken line) where
  abbrev byte_at : ℕ
  byte_at = get_or input taken 0

  pub keeping_on : taken < length input → (byte_at ≡ line_feed → ⊥) → {line' : Begun} → line' ≡ keeping line byte_at
      → Keeping input from line₀ (taken + 1) line'
  keeping_on more other on =
      record {
        onward = omega (arith, k.onward);
        within = omega arith;
        leads = λ holidays a room.
            leads_on (k.leads holidays a room) (byte_kept holidays input taken room (state a line) more other (ap (state a) (sym on)));
      }

no_end_before : (bytes : List ℕ) (end : ℕ) → end ≤ length bytes → NoEnd (take end bytes)
    → (k : ℕ) → k < end → get_or bytes k 0 ≡ line_feed → ⊥
no_end_before bytes end within none k h =
    rw (get_or-take end bytes k 0 h) at
    (All-get_or (λ c. c ≢ line_feed) (take end bytes) k 0 (omega (arith, length-take end bytes)) none)

-- A line kept up to the place where it ends.
pub record KeptTo (input : List ℕ) (from : ℕ) (line₀ : Begun) (taken : ℕ) : Type 0 where
  pub line : Begun
  pub keeping : Keeping input from line₀ taken line

kept_to : {input : List ℕ} {from : ℕ} {line₀ : Begun} (k : ℕ) → from + k ≤ length input
    → ((i : ℕ) → i < k → get_or (drop from input) i 0 ≡ line_feed → ⊥) → KeptTo input from line₀ (from + k)
kept_to {input} {from} {line₀} zero within none =
    record { line = line₀; keeping = rw (add-zero from) (keeping_start (omega (arith, within))) }
kept_to {input} {from} {line₀} (suc k) within none =
    let so_far = kept_to {input = input} {from = from} {line₀ = line₀} k (omega arith) (λ i h. none i (omega arith)) in
    let next = get_or input (from + k) 0 in
    record {
      line = keeping so_far.line next;
      keeping =
          rw (add-suc from k, ← add-one (from + k))
          (keeping_on so_far.keeping (omega arith) (rw (get_or-drop from input k 0) at (none k (omega arith))) refl);
    }

-- The first characters kept, and so many of the line at least.
pub record KeptFront (input : List ℕ) (from : ℕ) (line₀ : Begun) (count : ℕ) (line : Begun) : Type 0 where
  pub keeping : Keeping input from line₀ (from + count) line
  pub many : count ≤ line.length

module _ {input : List ℕ} {from : ℕ} {line₀ : Begun} where
  pub front_start : from ≤ length input → KeptFront input from line₀ 0 line₀
  front_start within = record { keeping = rw (add-zero from) (keeping_start within); many = omega arith }

  pub front_on : {count : ℕ} {line line' : Begun} → KeptFront input from line₀ count line → count < kept_most → from + count < length input
      → (get_or input (from + count) 0 ≡ line_feed → ⊥) → line' ≡ keeping line (get_or input (from + count) 0)
      → KeptFront input from line₀ (count + 1) line'
  front_on {count} {line} {line'} f few more other on =
      record {
        keeping = let next : from + (count + 1) ≡ from + count + 1 = omega arith in rw next (keeping_on f.keeping more other on);
        many = rw on (longer (ltb line.length kept_most) refl);
      }
    where
      longer : (b : Bool) → ltb line.length kept_most ≡ b → count + 1 ≤ (keeping line (get_or input (from + count) 0)).length
      longer true e = rw e (omega (arith, f.many))
      longer false e = rw e (omega (arith, few, ltb-false line.length kept_most e))

  -- Behind as many as are kept, the others pass by.
  pub passed_on : {taken : ℕ} {line : Begun} → Keeping input from line₀ taken line → kept_most ≤ line.length → (k : ℕ) → taken + k ≤ length input
      → ((i : ℕ) → i < k → get_or input (taken + i) 0 ≡ line_feed → ⊥) → Keeping input from line₀ (taken + k) line
  passed_on {taken} {line} k₀ full zero within none = rw (add-zero taken) k₀
  passed_on {taken} {line} k₀ full (suc k) within none =
      rw (add-suc taken k, ← add-one (taken + k))
      (keeping_on (passed_on k₀ full k (omega arith) (λ i h. none i (omega arith))) (omega arith) (none k (omega arith))
      (sym (kept_full line (get_or input (taken + k) 0) full)))

-- The characters of an input behind a place.
pub rest_at : (input : List ℕ) (from i : ℕ) → get_or (part from (length input) input) i 0 ≡ get_or input (from + i) 0
rest_at input from i = rw (between_to_end input from (length input) (omega arith)) (get_or-drop from input i 0)

pub rest_long : (input : List ℕ) (from : ℕ) → length (part from (length input) input) ≡ length input - from
rest_long input from = rw (between_to_end input from (length input) (omega arith)) (length-drop from input)

-- A line whose length was found: its characters, none of which ends it, and what is kept of all of them.
module _ (input : List ℕ) (from n : ℕ) (begins : from ≤ length input) (within : n ≤ length (part from (length input) input))
    (none : NoEnd (take n (part from (length input) input))) where
  pub front_byte : (most i : ℕ) → i < most → get_or (take most (part from (length input) input)) i 0 ≡ get_or input (from + i) 0
  front_byte most i h = get_or-take most (part from (length input) input) i 0 h ∙ rest_at input from i

  pub goes_on : (i : ℕ) → i < n → get_or input (from + i) 0 ≡ line_feed → ⊥
  goes_on i h e = no_end_before (part from (length input) input) n within none i h (rest_at input from i ∙ e)

  pub front_is_all : {count : ℕ} {line₀ line : Begun} → KeptFront input from line₀ count line → count ≡ min n kept_most
      → (n < length (part from (length input) input) → get_or (part from (length input) input) n 0 ≡ line_feed)
      → Keeps input from line₀ line (from + n)
  front_is_all {count} {line₀} {line} f is ends =
      let k = all (leb n kept_most) refl in
      record {
        onward = k.onward;
        within = k.within;
        ends = λ more. sym (rest_at input from n) ∙ ends (omega (arith, more, rest_long input from));
        leads = k.leads;
      }
    where
      all : (b : Bool) → leb n kept_most ≡ b → Keeping input from line₀ (from + n) line
      all true e =
          let same : count ≡ n = omega (arith, is, leb-true n kept_most e) in
          rw same at f.keeping
      all false e =
          let full : count ≡ kept_most = omega (arith, is, leb-false n kept_most e) in
          let more : from + count + (n - kept_most) ≡ from + n = omega (arith, full, leb-false n kept_most e) in
          rw more at
          (passed_on f.keeping (omega (arith, full, f.many)) (n - kept_most) (omega (arith, full, within, rest_long input from, leb-false n kept_most e))
          (λ i h l.
          let same : from + (count + i) ≡ from + count + i = omega arith in
          goes_on (count + i) (omega (arith, full, h)) (rw same l)))

-- The line that goes on at a place, up to the end that was found.
pub found_end : {input : List ℕ} {from : ℕ} {line₀ : Begun} {end : ℕ} → from ≤ length input
    → (let bytes = part from (length input) input in
    end < length bytes → get_or bytes end 0 ≡ line_feed → NoEnd (take end bytes)
    → (kept : Begun) × Keeps input from line₀ kept (from + end))
found_end {input} {from} {line₀} {end} begins within ends none =
    let bytes_are = between_to_end input from (length input) (omega arith) in
    let more = rw bytes_are at within in
    let inside : from + end < length input = omega (arith, more, length-drop from input) in
    let before = no_end_before (drop from input) end (omega arith) (rw bytes_are at none) in
    let k = kept_to {input = input} {from = from} {line₀ = line₀} end (omega arith) before in (
      k.line,
      record {
        onward = omega arith;
        within = omega arith;
        ends = λ h. sym (get_or-drop from input end 0) ∙ rw bytes_are at ends;
        leads = k.keeping.leads;
      },
    )

-- A frame has at most as many characters as the longest.
frame_short : (line : List ℕ) {call : Call} → parsed line ≡ Some call → length line ≤ longest_frame
frame_short line e =
    by_test (leb (length line) longest_frame) (leb-true (length line) longest_frame)
    (λ long. absurd (let none = too_long line (leb-false (length line) longest_frame long) in cc))

no_call : (p : Option Call) → ((call : Call) → p ≡ Some call → ⊥) → p ≡ None
no_call None other = refl
no_call (Some call) other = absurd (other call refl)

-- The characters kept of a line, with LF behind them: the frame that begins them is the line's where it has all of them.
module _ (line : List ℕ) (n : ℕ) where
  abbrev with_end : List ℕ
  with_end = set line n line_feed

  pub kept_many : length line ≡ kept_most → kept_most ≤ n → None ≡ parsed (take n line)
  kept_many long many = sym (too_long (take n line) (rw (length-take n line) (omega arith)))

  kept_begins : length line ≡ kept_most → n < kept_most → {call : Call} → parsed (take n line) ≡ Some call → Begins with_end call n
  kept_begins long few is =
      record {
        room = rw (length-set line n line_feed) (omega arith);
        within = omega arith;
        ends = get_or-set_same line n line_feed 0 (omega arith);
        frame = rw (take-set line n line_feed) is;
      }

  kept_none : length line ≡ kept_most → n < kept_most → ((call : Call) → Begins with_end call n → ⊥) → None ≡ parsed (take n line)
  kept_none long few none = sym (no_call (parsed (take n line)) (λ call is. none call (kept_begins long few is)))

  pub kept_no_frame : length line ≡ kept_most → n < kept_most → FrameAt with_end None → None ≡ parsed (take n line)
  kept_no_frame long few none = kept_none long few (λ call b. none call n b)

  kept_other : length line ≡ kept_most → n < kept_most → {call : Call} {width : ℕ} → Begins with_end call width → (width ≡ n → ⊥)
      → None ≡ parsed (take n line)
  kept_other long few found other = kept_none long few (λ call b. other (begins_once found b))

  kept_frame : {call : Call} {width : ℕ} → Begins with_end call width → width ≡ n → Some call ≡ parsed (take n line)
  kept_frame {call} found same =
      let whole : parsed (take n with_end) ≡ Some call = rw same at found.frame in
      sym (rw (take-set line n line_feed) at whole)

  pub kept_read : length line ≡ kept_most → n < kept_most → (frame : Frame) {width : ℕ} → Begins with_end (call_of frame) width
      → option_map call_of (then_some (eqb width n) frame) ≡ parsed (take n line)
  kept_read long few frame {width} found =
      by_test (eqb width n)
      (λ e. rw e (kept_frame found (eqb-true width n e)))
      (λ e. rw e (kept_other long few found (eqb-false width n e)))

-- The front of a line that lies in an input, kept.
record Front (input : List ℕ) (at k : ℕ) : Type 0 where
  line : List ℕ
  long : length line ≡ kept_most
  keeping : Keeping input at none_begun (at + k) (begun_with k line)
  same : take k line ≡ take k (drop at input)

-- A line that lies in an input, up to its end.
module _ (input : List ℕ) (at end : ℕ) (inside : at + end < length input) (ends : get_or input (at + end) 0 ≡ line_feed)
    (none_before : (k : ℕ) → k < end → get_or (drop at input) k 0 ≡ line_feed → ⊥) where
  abbrev rest : List ℕ
  rest = drop at input

  front_more : (k : ℕ) → k < end → k < kept_most → Front input at k → Front input at (suc k)
  front_more k h few f =
      let is = get_or-drop at input k 0 in
      let next = get_or input (at + k) 0 in
      record {
        line = set f.line k next;
        long = length-set f.line k next ∙ f.long;
        keeping =
            rw (add-suc at k, ← add-one (at + k), ← add-one k)
            (keeping_on f.keeping (omega (arith, inside)) (rw is at (none_before k h)) (sym (kept_within _ next few)));
        same =
            take-suc-set f.line k next (omega (arith, f.long)) ∙ ap (λ xs. xs ++ (next ∷ [])) f.same ∙
            sym (take-suc rest k 0 (omega (arith, inside, length-drop at input)) ∙ ap (λ c. take k rest ++ (c ∷ [])) is);
      }

  front_kept : (k : ℕ) → k ≤ end → k ≤ kept_most → Front input at k
  front_kept zero h few =
      record {
        line = blank_line;
        long = refl;
        keeping = rw (add-zero at) (keeping_start (omega (arith, inside)));
        same = refl;
      }
  front_kept (suc k) h few = front_more k (omega arith) (omega arith) (front_kept k (omega arith) (omega arith))

  -- Behind as many as are kept, the others pass by.
  passed_by : (k : ℕ) (f : Front input at kept_most) → kept_most + k ≤ end
      → Keeping input at none_begun (at + (kept_most + k)) (begun_with kept_most f.line)
  passed_by zero f h = f.keeping
  passed_by (suc k) f h =
      let is = get_or-drop at input (kept_most + k) 0 in
      rw (add-suc kept_most k, add-suc at (kept_most + k), ← add-one (at + (kept_most + k)))
      (keeping_on (passed_by k f (omega arith)) (omega (arith, inside)) (rw is at (none_before (kept_most + k) (omega arith))) refl)

  -- The line taken where it lies is what its bytes and LF, fed one by one, make.
  abbrev Taken : Option Call → Type 0
  Taken read = (room : ℕ) (holidays : List ℕ) (a : Account) → longest_answer ≤ room
      → Leads at (at + end + 1) (fed_from holidays input at room (between a))
      (fed_behind holidays input (at + end + 1) room (parsed_outcome holidays a read))

  line_taken : {line : Begun} → Keeping input at none_begun (at + end) line
      → {read : Option Call} → parsed (take line.length line.characters) ≡ read → Taken read
  line_taken {line} k is room holidays a left =
      leads_on (k.leads holidays a room) (line_ends_lem holidays input (at + end) room (state a line) inside ends left is)

  whole_taken : end ≤ longest_frame → {read : Option Call} → parsed (take end rest) ≡ read → Taken read
  whole_taken few is =
      let f = front_kept end (omega arith) (omega arith) in
      line_taken f.keeping (ap parsed f.same ∙ is)

  long_taken : longest_frame < end → Taken None
  long_taken many =
      let f = front_kept kept_most many (omega arith) in
      let all : kept_most + (end - kept_most) ≡ end = omega arith in
      line_taken (rw all at (passed_by (end - kept_most) f (omega arith)))
      (too_long (take kept_most f.line) (omega (arith, length-take kept_most f.line, f.long)))

  -- Where no frame lies though the longest had room, the line is none.
  other_taken : longest_frame < length rest → FrameAt rest None → Taken None
  other_taken wide no_frame =
      by_test (leb end longest_frame)
      (λ e.
      let few = leb-true end longest_frame e in
      let end_is = get_or-drop at input end 0 ∙ ends in
      whole_taken few
      (no_call (parsed (take end rest))
      (λ call is. no_frame call end (record { room = wide; within = few; ends = end_is; frame = is }))))
      (λ e. long_taken (leb-false end longest_frame e))

-- A frame that lies in an input.
module _ (input : List ℕ) (at : ℕ) {call : Call} {width : ℕ} (b : Begins (drop at input) call width) where
  digits_before : (k : ℕ) → k < width → get_or (drop at input) k 0 ≡ line_feed → ⊥
  digits_before k h =
      digit_no_end (get_or (drop at input) k 0)
      (every_in_front (λ c. is_digit c ≡ true) (drop at input) width k 0 h (omega (arith, b.room, b.within))
      (every_true is_digit (take width (drop at input)) (call_digits (take width (drop at input)) b.frame)))

  frame_taken : (room : ℕ) (holidays : List ℕ) (a : Account) → longest_answer ≤ room
      → Leads at (at + width + 1) (fed_from holidays input at room (between a))
      (fed_behind holidays input (at + width + 1) room (parsed_outcome holidays a (Some call)))
  frame_taken =
      whole_taken input at width (omega (arith, b.within, b.room, length-drop at input))
      (sym (get_or-drop at input width 0) ∙ b.ends) digits_before b.within b.frame

-- A line that ended leaves none begun, and no trace.
found_ended : {input : List ℕ} {from room taken : ℕ} {line after : Begun} {next : Next} {call : Option Call}
    → after ≡ none_begun → taken ≤ length input → from < taken → longest_answer ≤ room → read_as next ≡ Some call
    → ((holidays : List ℕ) (a : Account)
    → Leads from taken (fed_from holidays input from room (state a line))
    (fed_behind holidays input taken room (parsed_outcome holidays a call)))
    → Finds input from room line after (found_at next taken)
found_ended none within onward left is leads =
    record {
      within = within;
      ended = λ read e. let same = same_Some _ _ (sym is ∙ e) in record { room_left = left; onward = onward; none_begun = none; leads = rw same at leads };
      waits = λ e. absurd (cc);
    }

-- The next line, by what came of its characters: the input ended, or the room did; its end came; or it is a frame that lies there whole.
module _ {input : List ℕ} {from : ℕ} {line kept : Begun} {taken : ℕ} (k : Keeps input from line kept taken) (room : ℕ) where
  found_waiting : ((holidays : List ℕ) (a : Account)
      → Leads taken taken (fed_from holidays input taken room (state a kept)) (nothing (state a kept)))
      → Finds input from room line kept (found_at variants.Waits taken)
  found_waiting stops =
      record {
        within = k.within;
        ended = λ read e. absurd (cc);
        waits = λ e holidays a. leads_on (k.leads holidays a room) (stops holidays a);
      }

  pub found_no_end : length input ≤ taken → Finds input from room line kept (found_at variants.Waits taken)
  found_no_end none = found_waiting (λ holidays a. input_ended holidays input taken room (state a kept) none)

  pub found_no_room : taken < length input → room < longest_answer → Finds input from room line kept (found_at variants.Waits taken)
  found_no_room more short = found_waiting (λ holidays a. line_waits holidays input taken room (state a kept) more (k.ends more) short)

  pub found_waits : (taken ≡ length input) ⊎ ((taken ≡ length input → ⊥) × (room < longest_answer))
      → Finds input from room line kept (found_at variants.Waits taken)
  found_waits (inl none) = found_no_end (omega arith)
  found_waits (inr more) = found_no_room (omega (arith, k.within, more.0)) more.1

  pub kept_ends : taken < length input → longest_answer ≤ room → (holidays : List ℕ) (a : Account) {p : Option Call}
      → parsed (take kept.length kept.characters) ≡ p
      → Leads from (taken + 1) (fed_from holidays input from room (state a line))
      (fed_behind holidays input (taken + 1) room (parsed_outcome holidays a p))
  kept_ends more left holidays a is =
      leads_on (k.leads holidays a room) (line_ends_lem holidays input taken room (state a kept) more (k.ends more) left is)

  pub found_kept : taken < length input → longest_answer ≤ room
      → {next : Next} → read_as next ≡ Some (parsed (take kept.length kept.characters))
      → {after : Begun} → after ≡ none_begun → Finds input from room line after (found_at next (taken + 1))
  found_kept more left read none =
      found_ended none (omega arith) (omega (arith, k.onward)) left read (λ holidays a. kept_ends more left holidays a refl)

pub found_frame : {input : List ℕ} {from room width : ℕ} {line : Begun} {frame : Frame}
    → line ≡ none_begun → Begins (part from (length input) input) (call_of frame) width → longest_answer ≤ room
    → Finds input from room line line (found_at (variants.Frame frame) (from + width + 1))
found_frame {input} {from} {room} none begins left =
    let b = rw (between_to_end input from (length input) (omega arith)) at begins in
    found_ended none (omega (arith, b.within, b.room, length-drop from input)) (omega arith) left refl
    (λ holidays a. rw none (frame_taken input from b room holidays a left))

-- A line that ended where no frame lies is none.
pub found_other : {input : List ℕ} {from room end : ℕ} {line : Begun} → line ≡ none_begun → longest_answer ≤ room
    → from + kept_most ≤ length input
    → (let bytes = part from (length input) input in
    FrameAt bytes None → end < length bytes → get_or bytes end 0 ≡ line_feed → NoEnd (take end bytes)
    → Finds input from room line line (found_at variants.NoFrame (from + end + 1)))
found_other {input} {from} {room} {end} none left wide no_frame within ends before =
    let bytes_are = between_to_end input from (length input) (omega arith) in
    let more = rw bytes_are at within in
    let inside : from + end < length input = omega (arith, more, length-drop from input) in
    let end_is = sym (get_or-drop from input end 0) ∙ rw bytes_are at ends in
    let taken =
    other_taken input from end inside end_is (no_end_before (drop from input) end (omega arith) (rw bytes_are at before))
    (omega (arith, length-drop from input)) (rw bytes_are at no_frame) in
    found_ended none (omega (arith, inside)) (omega arith) left refl (λ holidays a. rw none (taken room holidays a left))

-- A feeding under way goes on behind a line whose answer was written.
pub ahead_turn : (holidays input : List ℕ) (size : ℕ) (s : State) (o : Outcome)
    {whole : Feeding} {text : List ℕ} {from taken place : ℕ} {out : List ℕ}
    → Ahead whole text from place (fed_from holidays input from (size - place) s) out
    → Leads from taken (fed_from holidays input from (size - place) s) (fed_behind holidays input taken (size - place) o)
    → {answer : Answer} → answer ≡ o.answer → {out' : List ℕ} → out' ≡ written out place (answer_line answer)
    → {place' : ℕ} → place' ≡ place + length (answer_line answer) → {s' : State} → s' ≡ between o.account
    → Ahead whole text taken place' (fed_from holidays input taken (size - place') s') out'
ahead_turn holidays input size s o {place = place} {out} a l is e f g =
    let line = answer_line o.answer in
    let at = f ∙ ap (λ (x : Answer). place + length (answer_line x)) is in
    let text_is = e ∙ ap (λ (x : Answer). written out place (answer_line x)) is in
    rw (text_is, at, g, left (length line)) (ahead_put line (ahead_leads a l))
  where
    left : (n : ℕ) → size - (place + n) ≡ size - place - n
    left n = omega arith
