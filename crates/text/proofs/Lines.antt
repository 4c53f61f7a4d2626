-- Laws of lines. Assumes nothing.
use Rattle.common.proofs.Words.{◌≡◌, refl, ap, cond, List, [], ◌∷◌, ◌++◌, ℕ, suc, ◌+◌, ◌≤◌, arith, eqb, length}
use Rattle.std.specs.List.{sum_by}
use Rattle.std.proofs.lemmas.List.{Recursion.is_count_by, Sums.count_by-le-length}
use Rattle.lists.specs.Joined.{joined}
use Rattle.common.proofs.Cases.{by_test}
use Rattle.lists.proofs.Joined.{joined_behind}
use Rattle.account.specs.declared.Account.{Account}
use Rattle.frames.specs.Digits.{line_feed}
use Rattle.answers.specs.Answers.{answer_line}
use Rattle.lines.specs.Line.{line_outcome}
use Rattle.text.specs.{Lines.lines_from, Lines.ends_in, Output.answers_of, Output.account_after, Pieces.lines_in, Pieces.part_after}

-- Of what came and what is still to come: the lines that ended, then those behind the part that is left.
pub lines_split : (part came rest : List ℕ) → lines_from part (came ++ rest) ≡ lines_in part came ++ lines_from (part_after part came) rest
unfolding lines_from lines_in part_after
lines_split part [] rest = refl
lines_split part (c ∷ cs) rest =
    by_test (eqb c line_feed)
    (λ e. rw e (ap (λ ls. part ∷ ls) (lines_split [] cs rest)))
    (λ e. rw e (lines_split (part ++ (c ∷ [])) cs rest))

pub lines_on : (part came more : List ℕ) → lines_in part (came ++ more) ≡ lines_in part came ++ lines_in (part_after part came) more
unfolding lines_in part_after
lines_on part [] more = refl
lines_on part (c ∷ cs) more =
    by_test (eqb c line_feed) (λ e. rw e (ap (λ ls. part ∷ ls) (lines_on [] cs more))) (λ e. rw e (lines_on (part ++ (c ∷ [])) cs more))

pub part_on : (part came more : List ℕ) → part_after part (came ++ more) ≡ part_after (part_after part came) more
unfolding part_after
part_on part [] more = refl
part_on part (c ∷ cs) more =
    by_test (eqb c line_feed) (λ e. rw e (part_on [] cs more)) (λ e. rw e (part_on (part ++ (c ∷ [])) cs more))

-- Lines behind lines.
answers_behind : (holidays : List ℕ) (a : Account) (lines more : List (List ℕ))
    → answers_of holidays a (lines ++ more) ≡ answers_of holidays a lines ++ answers_of holidays (account_after holidays a lines) more
unfolding answers_of account_after
answers_behind holidays a [] more = refl
answers_behind holidays a (line ∷ lines) more = rw (answers_behind holidays (line_outcome holidays a line).account lines more)

-- The text of the answers to lines.
abbrev pub text_of : List ℕ → Account → List (List ℕ) → List ℕ
text_of holidays a lines = joined answer_line (answers_of holidays a lines)

pub text_behind : (holidays : List ℕ) (a : Account) (lines more : List (List ℕ))
    → text_of holidays a (lines ++ more) ≡ text_of holidays a lines ++ text_of holidays (account_after holidays a lines) more
text_behind holidays a lines more = rw (answers_behind holidays a lines more, joined_behind answer_line)

pub account_behind : (holidays : List ℕ) (a : Account) (lines more : List (List ℕ))
    → account_after holidays a (lines ++ more) ≡ account_after holidays (account_after holidays a lines) more
unfolding account_after
account_behind holidays a [] more = refl
account_behind holidays a (line ∷ lines) more = account_behind holidays (line_outcome holidays a line).account lines more

-- The line ends of one text behind another.
pub ends_on : (came more : List ℕ) → ends_in (came ++ more) ≡ ends_in came + ends_in more
ends_on [] more = omega arith
ends_on (c ∷ cs) more =
    by_test (eqb c line_feed) (λ e. rw e (omega (arith, ends_on cs more))) (λ e. rw e (ends_on cs more))

-- They are those that are counted one by one.
pub ends_are_summed : (input : List ℕ) → ends_in input ≡ sum_by (λ c. cond (eqb c line_feed) 1 0) input
ends_are_summed = is_count_by ends_in (λ c. eqb c line_feed) refl one_more
  where
    one_more : (c : ℕ) (cs : List ℕ) → ends_in (c ∷ cs) ≡ cond (eqb c line_feed) (1 + ends_in cs) (ends_in cs)
    one_more c cs =
        let more : suc (ends_in cs) ≡ 1 + ends_in cs = omega arith in
        ap (λ n. cond (eqb c line_feed) n (ends_in cs)) more

pub ends_most : (input : List ℕ) → ends_in input ≤ length input
ends_most input = rw (ends_are_summed input) (count_by-le-length (λ c. eqb c line_feed) input)
