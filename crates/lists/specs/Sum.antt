-- Sums over lists.
use Rattle.std.specs.Prelude.{List, [], ◌∷◌, ℕ, ◌+◌}

-- f of each element, added up
abbrev pub total : {A : Type 0} → (A → ℕ) → List A → ℕ
total f [] = 0
total f (x ∷ xs) = f x + total f xs

abbrev pub sum : List ℕ → ℕ
sum = total (λ n. n)
