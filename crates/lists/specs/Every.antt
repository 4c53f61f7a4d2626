-- What every element of a list passes, as a test and as a fact, and lists that agree place for place.
use Rattle.std.specs.Prelude.{Bool, true, false, ◌&&◌, List, [], ◌∷◌}

abbrev pub every : {A : Type 0} → (A → Bool) → List A → Bool
every test [] = true
every test (x ∷ xs) = test x && every test xs

-- P holds of every element
abbrev pub Every : {A : Type 0} → (A → Type 0) → List A → Type 0
Every P [] = Unit {0}
Every P (x ∷ xs) = P x × Every P xs

-- two lists of one length whose elements agree, place for place
abbrev pub same : {A : Type 0} → (A → A → Bool) → List A → List A → Bool
same agree [] [] = true
same agree [] (y ∷ ys) = false
same agree (x ∷ xs) [] = false
same agree (x ∷ xs) (y ∷ ys) = agree x y && same agree xs ys
