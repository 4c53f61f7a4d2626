-- Laws of sums over lists. Assumes nothing.
use mathlib.Core.Path.{◌≡◌, refl}
use mathlib.Core.List.{List, [], ◌∷◌, ◌++◌, map, reverse, reverse-cons}
use Prim.Native.Nat.{ℕ, zero, suc, ◌+◌, ◌*◌, ◌≤◌, ◌<◌}
use native.Mathlib.Nat.{le_refl, suc-mul, not-suc-le-zero, le_of_suc-le-suc}
use native.Mathlib.Omega.{arith}
use lib.ListN.{length, get_or, take}
use lib.Seq.{take-suc}
use Rattle.lists.specs.{Sum.total, Every.Every}
use Rattle.lists.proofs.Every.{every_map}

module _ {A : Type 0} (f : A → ℕ) where
  pub total_append : (xs ys : List A) → total f (xs ++ ys) ≡ total f xs + total f ys
  total_append [] ys = omega arith
  total_append (x ∷ xs) ys = omega (arith, total_append xs ys)

  pub total_reverse : (xs : List A) → total f (reverse xs) ≡ total f xs
  total_reverse [] = refl
  total_reverse (x ∷ xs) = rw (reverse-cons x xs, total_append (reverse xs) (x ∷ []), total_reverse xs) (omega arith)

  -- one element more
  pub total_suc : (xs : List A) (i : ℕ) (d : A) → i < length xs → total f (take (suc i) xs) ≡ total f (take i xs) + f (get_or xs i d)
  total_suc xs i d h = rw (take-suc xs i d h, total_append (take i xs) (get_or xs i d ∷ [])) (omega arith)

  -- a part is at most the whole
  pub element_at_most : (xs : List A) (i : ℕ) (d : A) → i < length xs → f (get_or xs i d) ≤ total f xs
  element_at_most [] i d h = absurd (not-suc-le-zero h)
  element_at_most (x ∷ xs) zero d h = omega arith
  element_at_most (x ∷ xs) (suc i) d h = omega (arith, element_at_most xs i d (le_of_suc-le-suc h))

  -- as many times the bound of a part as there are parts
  pub total_at_most : (bound : ℕ) → ((x : A) → f x ≤ bound) → (xs : List A) → total f xs ≤ length xs * bound
  total_at_most bound each [] = omega arith
  total_at_most bound each (x ∷ xs) = rw (suc-mul (length xs) bound) (omega (arith, each x, total_at_most bound each xs))

  -- the sum of a list's front rises with the front
  pub front_rises : (xs : List A) (k : ℕ) → total f (take k xs) ≤ total f (take (suc k) xs)
  front_rises [] zero = le_refl 0
  front_rises [] (suc k) = le_refl 0
  front_rises (x ∷ xs) zero = omega arith
  front_rises (x ∷ xs) (suc k) = omega (arith, front_rises xs k)

pub total_map : {A B : Type 0} (f : B → ℕ) (g : A → B) (xs : List A) → total f (map g xs) ≡ total (λ x. f (g x)) xs
total_map f g [] = refl
total_map f g (x ∷ xs) = omega (arith, total_map f g xs)

-- no element is above the sum
pub each_at_most : (xs : List ℕ) → Every (λ x. x ≤ total (λ n. n) xs) xs
each_at_most [] = tt
each_at_most (x ∷ xs) =
    (omega arith, every_map (λ y. y ≤ total (λ n. n) xs) (λ y. y ≤ x + total (λ n. n) xs) (λ y h. omega arith) xs (each_at_most xs))
