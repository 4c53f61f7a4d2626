-- Feeding pieces gives the output of what was taken of them, one behind the other. Assumes nothing.
use Rattle.common.proofs.Words.{◌≡◌, refl, sym, ap, ◌∙◌, true, false, List, [], ◌∷◌, ◌++◌, append_assoc, append-nil, ℕ, suc, ◌-◌, ◌≤◌, ◌<◌}
use Rattle.common.proofs.Words.{suc-ne-zero, arith, eqb, leb, ltb, length, set, take, length-append, length-set, take_all, take-suc-set}
use Rattle.common.proofs.Words.{length-take-le, ltb-true, ltb-false, leb-true, leb-false, eqb-true, eqb-false}
use lib.Seq.{take-append-le}
use Rattle.account.specs.{declared.Account.Account, Calls.new_account}
use Rattle.audit.specs.Claim.{start}
use Rattle.frames.specs.{Frames.parsed, Digits.line_feed}
use Rattle.common.proofs.Cases.{by_test}
use Rattle.frames.proofs.Frames.{too_long}
use Rattle.answers.specs.Answers.{answer_line, longest_answer}
use Rattle.lines.specs.Begun.{kept_most}
use Rattle.lines.specs.Feeding.{between, fresh, line_of, kept, line_ends, ended, Feeding, nothing, behind, feeding, finishing}
use Rattle.lines.specs.declared.State.{State}
use Rattle.lines.proofs.Feeding.{feed_ends, finish_none, finish_line}
use Rattle.feeding.specs.Reached.{Ready}
use Rattle.text.specs.Output.{answers_of, account_after, calls_of, bill}
use Rattle.text.specs.Pieces.{lines_in, part_after, made, Holds, Stands, Follows, Piece, state_after, taken_of, written_of, AtEnd, Behind}
use Rattle.text.specs.Lines.{lines_from, lines_of}
use Rattle.text.proofs.Lines.{lines_split, lines_on, part_on, text_of, text_behind, account_behind}
use Rattle.text.proofs.Sums.{account_run}

holds_none : (a : Account) → Holds (between a) []
holds_none a = record { line_is = refl; length_is = refl; line_long = refl; clear = λ z. refl }

module _ {s : State} {part : List ℕ} (h : Holds s part) where
  holds_kept : (c : ℕ) → Holds (kept s c) (part ++ (c ∷ []))
  holds_kept c =
      let count = h.length_is in
      let more = length-append part (c ∷ []) in
      by_test (ltb s.line.length kept_most)
      (λ e.
      let within : s.line.length < kept_most = ltb-true s.line.length kept_most e in
      let whole : take (suc s.line.length) (set s.line.characters s.line.length c) ≡ take kept_most (part ++ (c ∷ [])) =
      take-suc-set s.line.characters s.line.length c (rw h.line_long within) ∙
      ap (λ xs. xs ++ (c ∷ [])) (h.line_is ∙ take_all kept_most part (omega arith)) ∙
      sym (take_all kept_most (part ++ (c ∷ [])) (omega arith)) in
      rw e
      (record {
        line_is = whole;
        length_is = omega arith;
        line_long = length-set s.line.characters s.line.length c ∙ h.line_long;
        clear = λ z. absurd (suc-ne-zero s.line.length z);
      }))
      (λ e.
      let full : kept_most ≤ s.line.length = ltb-false s.line.length kept_most e in
      let same = take-append-le kept_most part (c ∷ []) (omega arith) in
      rw e (record { line_is = h.line_is ∙ sym same; length_is = omega arith; line_long = h.line_long; clear = h.clear }))

  -- What is kept of a line is enough to read it.
  line_read : parsed (line_of s) ≡ parsed part
  line_read =
      ap parsed h.line_is ∙
      by_test (leb (length part) kept_most) (λ e. ap parsed (take_all kept_most part (leb-true (length part) kept_most e)))
      (λ e.
      let more : kept_most < length part = leb-false (length part) kept_most e in
      too_long (take kept_most part) (rw (length-take-le kept_most part (omega arith)) (omega arith)) ∙ sym (too_long part (omega arith)))

-- What a piece did: it ended the lines of what was taken of it.
record Went (holidays : List ℕ) (s : State) (part bytes : List ℕ) (f : Feeding) : Type 0 where
  holds : Holds f.state (part_after part (take f.taken bytes))
  account_is : f.state.account ≡ account_after holidays s.account (lines_in part (take f.taken bytes))
  output_is : f.output ≡ text_of holidays s.account (lines_in part (take f.taken bytes))

module _ (holidays : List ℕ) {s : State} {part : List ℕ} (h : Holds s part) where
  went_nothing : (bytes : List ℕ) → Went holidays s part bytes (nothing s)
  unfolding part_after lines_in account_after answers_of
  went_nothing bytes = record { holds = h; account_is = refl; output_is = refl }

  module _ {c : ℕ} {cs : List ℕ} {f : Feeding} where
    went_end : eqb c line_feed ≡ true → Went holidays (ended holidays s) [] cs f
        → Went holidays s part (c ∷ cs) (behind (answer_line (line_ends holidays s).answer) f)
    unfolding part_after lines_in account_after answers_of
    went_end e w =
        record {
          holds = rw e w.holds;
          account_is = rw (e, w.account_is, line_read h);
          output_is = rw (e, w.output_is, line_read h);
        }

    went_kept : eqb c line_feed ≡ false → Went holidays (kept s c) (part ++ (c ∷ [])) cs f → Went holidays s part (c ∷ cs) (behind [] f)
    unfolding part_after lines_in account_after answers_of
    went_kept e w =
        record {
          holds = rw e w.holds;
          account_is = rw e w.account_is;
          output_is = rw e w.output_is;
        }

went : (holidays bytes : List ℕ) (room : ℕ) {s : State} {part : List ℕ} → Holds s part
    → Went holidays s part bytes (feeding holidays room s bytes)
unfolding feeding
went holidays [] room h = went_nothing holidays h []
went holidays (c ∷ cs) room {s} h =
    by_test (eqb c line_feed)
    (λ e.
    by_test (ltb room longest_answer) (λ r. rw (e, r) (went_nothing holidays h (c ∷ cs)))
    (λ r.
    rw (e, r)
    (went_end holidays h e
    (went holidays cs (room - length (answer_line (line_ends holidays s).answer)) (holds_none (line_ends holidays s).account)))))
    (λ e. rw e (went_kept holidays h e (went holidays cs room (holds_kept h c))))

pub stands_start : (holidays : List ℕ) → Stands holidays [] [] fresh
unfolding part_after lines_in account_after answers_of
stands_start holidays = record { holds = holds_none new_account; account_is = refl; out_is = refl }

module _ {holidays seen out : List ℕ} {s : State} (w : Stands holidays seen out s) where
  pub stands_on : (room : ℕ) (bytes : List ℕ)
      → let f = feeding holidays room s bytes in Stands holidays (seen ++ take f.taken bytes) (out ++ f.output) f.state
  stands_on room bytes =
      let more = take (feeding holidays room s bytes).taken bytes in
      let before = lines_in [] seen in
      let new = lines_in (part_after [] seen) more in
      let g = went holidays bytes room w.holds in
      record {
        holds = rw (part_on [] seen more) g.holds;
        account_is = rw (lines_on [] seen more, account_behind holidays new_account before new, ← w.account_is) g.account_is;
        out_is = rw (lines_on [] seen more, text_behind holidays new_account before new, ← w.account_is, ← w.out_is, ← g.output_is);
      }

  pub made_is : out ≡ made holidays seen
  unfolding made
  made_is = w.out_is

-- The lines of an input: those that ended in it, and the part that its end ends.
lines_all : (seen : List ℕ) → lines_of seen ≡ lines_in [] seen ++ lines_from (part_after [] seen) []
lines_all seen = ap (lines_from []) (sym (append-nil seen)) ∙ lines_split [] seen []

last_none : (part : List ℕ) → length part ≡ 0 → lines_from part [] ≡ []
unfolding lines_from
last_none [] e = refl
last_none (c ∷ cs) e = absurd (suc-ne-zero (length cs) e)

pub last_line_lem : (part : List ℕ) → (length part ≡ 0 → ⊥) → lines_from part [] ≡ part ∷ []
unfolding lines_from
last_line_lem [] n = absurd (n refl)
last_line_lem (c ∷ cs) n = refl

-- The end of the input: all that was written is what `bill` writes for all that was taken.
pub record Ended (holidays seen out : List ℕ) (f : Feeding) : Type 0 where
  pub out_is : out ++ f.output ≡ bill holidays seen
  pub at_end : AtEnd holidays seen f.state

fed_none : (holidays : List ℕ) (room : ℕ) (s : State) → feeding holidays room s [] ≡ nothing s
unfolding feeding
fed_none holidays room s = refl

module _ {holidays seen out : List ℕ} {s : State} (w : Stands holidays seen out s) where
  ended_none : s.line.length ≡ 0 → Ended holidays seen out (nothing s)
  unfolding bill
  ended_none z =
      let count = w.holds.length_is in
      let lines : lines_of seen ≡ lines_in [] seen =
      rw (lines_all seen, last_none (part_after [] seen) (omega arith)) (append-nil (lines_in [] seen)) in
      record { out_is = rw (append-nil out, lines) w.out_is; at_end = record { account_is = rw lines w.account_is; none_begun = z } }

  ended_line : (s.line.length ≡ 0 → ⊥)
      → Ended holidays seen out (behind (answer_line (line_ends holidays s).answer) (nothing (ended holidays s)))
  unfolding bill answers_of account_after
  ended_line n =
      let part = part_after [] seen in
      let before = lines_in [] seen in
      let count = w.holds.length_is in
      let lines : lines_of seen ≡ before ++ (part ∷ []) = rw (lines_all seen, last_line_lem part (λ z. n (omega arith))) in
      let read = line_read w.holds in
      record {
        out_is = rw (read, lines, text_behind holidays new_account before (part ∷ []), ← w.account_is, ← w.out_is);
        at_end =
            record {
              account_is = rw (read, lines, account_behind holidays new_account before (part ∷ []), ← w.account_is);
              none_begun = refl;
            };
      }

  pub stands_end : (room : ℕ) → longest_answer ≤ room → Ended holidays seen out (finishing holidays room s)
  stands_end room r =
      let left = room - length (answer_line (line_ends holidays s).answer) in
      by_test (eqb s.line.length 0)
      (λ e. let z = eqb-true s.line.length 0 e in rw (finish_none holidays room s z) (ended_none z))
      (λ e.
      let n = eqb-false s.line.length 0 e in
      rw (finish_line holidays room s n, feed_ends holidays room s line_feed [] refl r, fed_none holidays left (ended holidays s))
      (ended_line n))

-- A state that follows what was taken follows one more piece, as far as it was taken.
pub follows_start : (holidays : List ℕ) → Follows holidays [] fresh
follows_start holidays = let start = stands_start holidays in rw (← made_is start) start

pub follows_on : (holidays seen : List ℕ) (s : State) (room : ℕ) (bytes : List ℕ) → Follows holidays seen s
    → Follows holidays (seen ++ take (feeding holidays room s bytes).taken bytes) (feeding holidays room s bytes).state
follows_on holidays seen s room bytes w = let next = stands_on w room bytes in rw (← made_is next) next

-- And where there is room for a line, the end of the input leaves it at its end.
pub follows_end : (holidays seen : List ℕ) (s : State) (room : ℕ) → longest_answer ≤ room → Follows holidays seen s
    → AtEnd holidays seen (finishing holidays room s).state
follows_end holidays seen s room r w = (stands_end w room r).at_end

-- Pieces of any sizes, cut anywhere, with any room: what they make, with what the end makes behind it, is what `bill` writes for all
-- that was taken.
stands_all : (pieces : List Piece) {holidays seen out : List ℕ} {s : State} → Stands holidays seen out s
    → Stands holidays (seen ++ taken_of holidays s pieces) (out ++ written_of holidays s pieces) (state_after holidays s pieces)
stands_all [] {holidays} {seen} {out} w = rw (append-nil seen, append-nil out) w
stands_all (piece ∷ pieces) {holidays} {seen} {out} {s} w =
    let f = feeding holidays piece.room s piece.bytes in
    let taken = take f.taken piece.bytes in
    rw (← append_assoc seen taken (taken_of holidays f.state pieces), ← append_assoc out f.output (written_of holidays f.state pieces))
    (stands_all pieces (stands_on w piece.room piece.bytes))

pub in_pieces : (holidays : List ℕ) (pieces : List Piece) (room : ℕ) → longest_answer ≤ room
    → Ended holidays (taken_of holidays fresh pieces) (written_of holidays fresh pieces)
    (finishing holidays room (state_after holidays fresh pieces))
in_pieces holidays pieces room r = stands_end (stands_all pieces (stands_start holidays)) room r

-- The account that lines leave is reached, and a state behind some input can be fed.
pub behind_ready : {holidays : List ℕ} {s : State} → Behind holidays s → Ready holidays s
behind_ready {holidays} b =
    let lines = lines_in [] b.seen in
    record { calls = calls_of lines; account_is = b.follows.account_is ∙ account_run holidays lines start }
