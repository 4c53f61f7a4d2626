-- The rule of the table of values, by one computed test over the table. Assumes nothing.
use Rattle.std.proofs.lemmas.Bool.{agree_below_at}
use Rattle.common.proofs.Words.{◌≡◌, refl, true, List, [], ◌∷◌, ◌++◌, ℕ, ◌<◌, eqb, eqb-true, get_or, replicate}
use Rattle.frames.specs.Digits.{is_digit, no_digit, value_or}

abbrev no_digits : ℕ → List ℕ
no_digits n = replicate n no_digit

abbrev table : List ℕ
table =
    no_digits 48 ++ (0 ∷ 1 ∷ 2 ∷ 3 ∷ 4 ∷ 5 ∷ 6 ∷ 7 ∷ 8 ∷ 9 ∷ [])
    ++ no_digits 39 ++ (10 ∷ 11 ∷ 12 ∷ 13 ∷ 14 ∷ 15 ∷ []) ++ no_digits 153

pub by_table : (c : ℕ) → c < 256 → get_or table c 0 ≡ value_or c
unfolding value_or is_digit
by_table c h = eqb-true _ _ (agree_below_at (λ k. eqb (get_or table k 0) (value_or k)) (λ _. true) 256 c refl h)
