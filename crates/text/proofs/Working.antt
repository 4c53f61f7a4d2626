-- A whole input worked in pieces. Assumes nothing.
use Rattle.common.proofs.Words.{◌≡◌, refl, sym, ap, ◌∙◌, List, [], ◌++◌, ℕ, ◌+◌, ◌≤◌, zero-add, arith, length}
use Rattle.common.proofs.Words.{take, drop, length-append, take_all, take-add, take-append_seam, length-sets, le-leb}
use lib.{ListN.take-append-drop, Seq.sets-eq}
use Rattle.account.specs.{declared.Account.Account, Calls.new_account}
use Rattle.frames.specs.Digits.{written}
use Rattle.answers.specs.Answers.{longest_answer}
use Rattle.answers.proofs.Writing.{written_on}
use Rattle.lines.specs.Feeding.{fresh, Feeding, feeding, finishing, fed_of}
use Rattle.lines.specs.{declared.State.State, declared.Fed.Fed}
use Rattle.text.specs.Output.{answers_of, account_after, bill, fitted_at}
use Rattle.text.specs.Pieces.{lines_in, part_after, made, Follows}
use Rattle.text.specs.Lines.{lines_from, lines_of}
use Rattle.text.proofs.Pieces.{follows_start, stands_on, made_is, stands_end}
use Rattle.text.proofs.Lines.{lines_split, text_behind}

-- What the lines of a front make is within what the whole input makes.
made_within : (holidays input : List ℕ) (n : ℕ) → length (made holidays (take n input)) ≤ length (bill holidays input)
unfolding made bill
made_within holidays input n =
    let lines = lines_in [] (take n input) in
    let rest = lines_from (part_after [] (take n input)) (drop n input) in
    let whole : lines_of input ≡ lines ++ rest =
    ap lines_of (sym (take-append-drop n input)) ∙ lines_split [] (take n input) (drop n input) in
    rw (whole, text_behind holidays new_account lines rest, length-append) (omega arith)

-- Where the work stands after so many bytes: where all that `bill` writes for the input has room, what was made is written.
pub record Working (holidays input text out : List ℕ) (s : State) (taken size : ℕ) : Type 0 where
  pub stands : Follows holidays (take taken input) s
  pub size_is : size ≡ length (made holidays (take taken input))
  pub out_is : length (bill holidays input) ≤ length text → out ≡ written text 0 (made holidays (take taken input))

made_none : (holidays : List ℕ) → made holidays [] ≡ []
unfolding made lines_in answers_of
made_none holidays = refl

pub working_start : (holidays input text : List ℕ) → Working holidays input text text fresh 0 0
working_start holidays input text =
    record { stands = follows_start holidays; size_is = rw (made_none holidays) refl; out_is = λ z. rw (made_none holidays) refl }

-- What a piece made lies in the space that was lent: the front of it is the output, which is put behind what stands.
pub record Lent (r : Fed) (place space : List ℕ) (f : Feeding) : Type 0 where
  pub result_is : r ≡ fed_of f
  pub space_is : space ≡ written place 0 f.output
  pub most : r.written ≤ length place

module _ {r : Fed} {place space : List ℕ} {f : Feeding} (m : Lent r place space f) where
  pub count_is : r.written ≡ length f.output
  count_is = ap (λ (x : Fed). x.written) m.result_is

  pub space_same : length space ≡ length place
  space_same = rw m.space_is (length-sets place 0 f.output)

  front_is : take r.written space ≡ f.output
  front_is =
      let out = f.output in
      let fits : 0 + length out ≤ length place = omega (arith, count_is, m.most) in
      rw (count_is, m.space_is, sets-eq out place 0 fits) (take-append_seam out (drop (0 + length out) place))

  pub front_put : (out : List ℕ) (size : ℕ) {out' : List ℕ} → out' ≡ fitted_at out size (take r.written space)
      → size + length f.output ≤ length out → out' ≡ written out size f.output
  front_put out size e room = e ∙ rw (front_is, le-leb (size + length f.output) (length out) room) refl

-- And at its end.
pub record Worked (holidays input text out : List ℕ) (account : Account) (size : ℕ) : Type 0 where
  pub account_is : account ≡ account_after holidays new_account (lines_of input)
  pub size_is : size ≡ length (bill holidays input)
  pub out_is : length (bill holidays input) ≤ length text → out ≡ written text 0 (bill holidays input)

-- What is made goes behind what stands: it is written where it fits, and it does where all has room.
module _ {holidays input text out : List ℕ} {s : State} {taken size : ℕ} (w : Working holidays input text out s taken size)
    (room : ℕ) (long : length out ≡ length text) where
  abbrev before : List ℕ
  before = made holidays (take taken input)

  pub working_on : {out' : List ℕ} → let f = feeding holidays room s (drop taken input) in
      (size + length f.output ≤ length out → out' ≡ written out size f.output)
      → Working holidays input text out' f.state (taken + f.taken) (size + length f.output)
  working_on e =
      let f = feeding holidays room s (drop taken input) in
      let next = stands_on w.stands room (drop taken input) in
      let done : before ++ f.output ≡ made holidays (take (taken + f.taken) input) = rw (take-add taken f.taken input) (made_is next) in
      let size_is : size + length f.output ≡ length (made holidays (take (taken + f.taken) input)) =
      rw (← done, length-append before f.output, ← w.size_is) in
      record {
        stands = rw (← done, take-add taken f.taken input) next;
        size_is = size_is;
        out_is = λ all.
            let fits : size + length f.output ≤ length out = omega (arith, size_is, made_within holidays input (taken + f.taken), all, long) in
            rw (← done) (written_on text 0 before f.output size (sym w.size_is) (w.out_is all) (rw (zero-add size) (e fits)));
      }

  pub working_end : {out' : List ℕ} → longest_answer ≤ room → length input ≤ taken
      → let g = finishing holidays room s in (size + length g.output ≤ length out → out' ≡ written out size g.output)
      → Worked holidays input text out' g.state.account (size + length g.output)
  working_end r h e =
      let g = finishing holidays room s in
      let all_in = take_all taken input h in
      let ended = stands_end w.stands room r in
      let done : before ++ g.output ≡ bill holidays input = ended.out_is ∙ ap (bill holidays) all_in in
      let size_is : size + length g.output ≡ length (bill holidays input) = rw (← done, length-append before g.output, ← w.size_is) in
      record {
        account_is = ended.at_end.account_is ∙ ap (λ xs. account_after holidays new_account (lines_of xs)) all_in;
        size_is = size_is;
        out_is = λ all.
            let fits : size + length g.output ≤ length out = omega (arith, size_is, all, long) in
            rw (← done) (written_on text 0 before g.output size (sym w.size_is) (w.out_is all) (rw (zero-add size) (e fits)));
      }
