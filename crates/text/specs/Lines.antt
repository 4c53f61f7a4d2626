-- A line ends at LF; a last line may lack it.
use Rattle.std.specs.Prelude.{List, [], ◌∷◌, ◌++◌, cond, ℕ, suc, eqb}
use Rattle.frames.specs.Digits.{line_feed}

-- The end of the input ends a line that has begun.
abbrev pub last_line : List ℕ → List (List ℕ)
last_line [] = []
last_line (c ∷ cs) = (c ∷ cs) ∷ []

-- The lines of what is still to come, behind the part of a line that came.
unfoldable pub lines_from : List ℕ → List ℕ → List (List ℕ)
lines_from part [] = last_line part
lines_from part (c ∷ cs) = cond (eqb c line_feed) (part ∷ lines_from [] cs) (lines_from (part ++ (c ∷ [])) cs)

abbrev pub lines_of : List ℕ → List (List ℕ)
lines_of input = lines_from [] input

-- The line ends in an input: it has at most one line more.
abbrev pub ends_in : List ℕ → ℕ
ends_in [] = 0
ends_in (c ∷ cs) = cond (eqb c line_feed) (suc (ends_in cs)) (ends_in cs)
