-- The input is fed at once, and its end made beside `out` and put behind: there is room for both (`all_taken`), and together they are all
-- that `bill` writes (`working_end`).
use Rattle.common.proofs.Words.{◌≡◌, refl, sym, ap, subst, ◌∙◌, List, ℕ, ◌+◌, ◌≤◌, arith, length, replicate}
use Rattle.frames.specs.Digits.{written}
use Rattle.answers.specs.Answers.{longest_answer}
use Rattle.lines.specs.Feeding.{fresh, Feeding, feeding, finishing, fed_of}
use Rattle.lines.specs.declared.Fed.{Fed}
use Rattle.feeding.specs.Reached.{Ready}
use Rattle.feeding.proofs.Reached.{reached_new}
use Rattle.text.proofs.Working.{Lent, count_is, front_put, Worked, working_start, working_on, working_end}
use Rattle.text.proofs.Room.{AllTaken, all_taken}
use Rattle.text.proofs.write_at_once.Goals as goal
use Rattle.text.proofs.write_at_once.Goals.{After-finish-last}

-- All is fed, and ended.
module _ (c : After-finish-last) where
  abbrev holidays : List ℕ
  holidays = c.args.holidays.now

  abbrev text : List ℕ
  text = c.args.out.now

  abbrev fed : Feeding
  fed = feeding holidays (length text) fresh c.args.input.now

  abbrev last : Feeding
  last = finishing holidays longest_answer fed.state

  same : feeding holidays (length text) c.new.result c.args.input.now ≡ fed
  same = ap (λ s. feeding holidays (length text) s c.args.input.now) c.new.ensures

  fed_is : c.feed-fed.result ≡ fed_of fed
  fed_is = c.feed-fed.ensures.value ∙ ap fed_of same

  filled : c.feed-fed.result.written ≡ length fed.output
  filled = ap (λ (f : Fed). f.written) fed_is

  out_is : c.feed-fed.new.out ≡ written text 0 fed.output
  out_is = c.feed-fed.ensures.out_after ∙ ap (λ (f : Feeding). written text 0 f.output) same

  all : AllTaken holidays (length text) fresh c.args.input.now
  all = all_taken holidays c.args.input.now (length text) fresh (reached_new holidays) c.requires

  made : Lent c.finish-last.result (replicate longest_answer 0) c.finish-last.new.out last
  made =
      let same = ap (λ (f : Fed). finishing holidays longest_answer f.state) fed_is in
      record {
        result_is = c.finish-last.ensures.value ∙ ap fed_of same;
        space_is = c.finish-last.ensures.out_after ∙ ap (λ (f : Feeding). written (replicate longest_answer 0) 0 f.output) same;
        most = c.finish-last.ensures.written_in_bounds;
      }

  fits : c.feed-fed.result.written + c.finish-last.result.written ≤ length text
  fits = omega (arith, filled, made.most, all.left)

  room : c.feed-fed.result.written + length last.output ≤ length c.feed-fed.new.out
  room = omega (arith, fits, c.feed-fed.auto.out, count_is made)

  worked : {end : List ℕ} → end ≡ written c.feed-fed.new.out c.feed-fed.result.written last.output
      → Worked holidays c.args.input.now text end last.state.account (0 + length fed.output + length last.output)
  worked {end} e =
      let w = working_on (working_start holidays c.args.input.now text) (length text) refl (λ z. out_is) in
      let place : c.feed-fed.result.written ≡ 0 + length fed.output = omega (arith, filled) in
      let behind = e ∙ ap (λ n. written c.feed-fed.new.out n last.output) place in
      working_end w longest_answer c.feed-fed.auto.out (omega arith) (omega (arith, all.taken_all)) (λ z. behind)

pub feed-fed-requires : goal.feed-fed-requires
feed-fed-requires c =
    let holidays = c.args.holidays.now in
    subst (Ready holidays) (sym c.new.ensures) (reached_new holidays)

pub returns-clause-value : goal.returns-clause-value
returns-clause-value c =
    let f = (goal.at.returns-clause-value c).After-finish-last in
    let w = worked f refl in
    omega (arith, filled f, w.size_is, count_is (made f))

pub returns-clause-upper_bound : goal.returns-clause-upper_bound
returns-clause-upper_bound c = fits (goal.at.returns-clause-upper_bound c).After-finish-last

pub returns-clause-out_after : goal.returns-clause-out_after
returns-clause-out_after c =
    let f = (goal.at.returns-clause-out_after c).After-finish-last in
    let put = front_put (made f) c.feed-fed.new.out c.feed-fed.result.written c.put_part.ensures (room f) in
    let w = worked f put in
    w.out_is (omega (arith, w.size_is, filled f, count_is (made f), fits f))
