-- What holds of every element of a list. Assumes nothing.
use mathlib.Core.Path.{◌≡◌, refl, sym, ap}
use mathlib.Core.Bool.{Bool, true, false, ◌&&◌, and-eq-true_iff, and-true, and-false, and_assoc}
use mathlib.Core.List.{List, [], ◌∷◌, ◌++◌, reverse, reverse-cons}
use Prim.Native.Nat.{ℕ, zero, suc, ◌-◌, ◌<◌}
use native.Mathlib.Nat.{not-suc-le-zero, le_of_suc-le-suc, suc_inj}
use native.Mathlib.Omega.{arith}
use lib.ListN.{length, get_or, take, length-take, replicate}
use lib.Seq.{get_or-take}
use Rattle.std.specs.List.{list_all}
use Rattle.lists.specs.{Pad.pad, Every.every, Every.Every, Every.same}

module _ {A : Type 0} (P : A → Type 0) where
  pub every_append : (xs ys : List A) → Every P xs → Every P ys → Every P (xs ++ ys)
  every_append [] ys a b = b
  every_append (x ∷ xs) ys a b = (a.0, every_append xs ys a.1 b)

  pub every_at : (xs : List A) (i : ℕ) (d : A) → i < length xs → Every P xs → P (get_or xs i d)
  every_at [] i d h e = absurd (not-suc-le-zero h)
  every_at (x ∷ xs) zero d h e = e.0
  every_at (x ∷ xs) (suc i) d h e = every_at xs i d (le_of_suc-le-suc h) e.1

  pub every_in_front : (xs : List A) (n i : ℕ) (d : A) → i < n → i < length xs → Every P (take n xs) → P (get_or xs i d)
  every_in_front xs n i d l h e = rw (get_or-take n xs i d l) at (every_at (take n xs) i d (omega (arith, length-take n xs)) e)

-- what holds of each element gives another fact of each
pub every_map : {A : Type 0} (P Q : A → Type 0) → ((x : A) → P x → Q x) → (xs : List A) → Every P xs → Every Q xs
every_map P Q f [] e = tt
every_map P Q f (x ∷ xs) e = (f x e.0, every_map P Q f xs e.1)

-- From the test to the facts, and back.
module _ {A : Type 0} (test : A → Bool) where
  pub every_true : (xs : List A) → every test xs ≡ true → Every (λ x. test x ≡ true) xs
  every_true [] e = tt
  every_true (x ∷ xs) e =
      let both = (and-eq-true_iff (test x) (every test xs)).0 e in
      (both.0, every_true xs both.1)

  pub true_every : (xs : List A) → Every (λ x. test x ≡ true) xs → every test xs ≡ true
  true_every [] e = refl
  true_every (x ∷ xs) e = (and-eq-true_iff (test x) (every test xs)).1 (e.0, true_every xs e.1)

  pub every_behind : (xs ys : List A) → every test xs ≡ true → every test ys ≡ true → every test (xs ++ ys) ≡ true
  every_behind xs ys e f = true_every (xs ++ ys) (every_append (λ x. test x ≡ true) xs ys (every_true xs e) (every_true ys f))

-- What fails behind fails of all.
pub every_fails : {A : Type 0} (test : A → Bool) (xs ys : List A) → every test ys ≡ false → every test (xs ++ ys) ≡ false
every_fails test [] ys e = e
every_fails test (x ∷ xs) ys e = rw (every_fails test xs ys e) (and-false (test x))

-- The test over a front of a list, with one element more.
pub every_suc : {A : Type 0} (test : A → Bool) (xs : List A) (i : ℕ) (d : A) → i < length xs
    → every test (take (suc i) xs) ≡ (every test (take i xs) && test (get_or xs i d))
every_suc test [] i d h = absurd (not-suc-le-zero h)
every_suc test (x ∷ xs) zero d h = and-true (test x)
every_suc test (x ∷ xs) (suc i) d h =
    rw (every_suc test xs i d (le_of_suc-le-suc h)) (sym (and_assoc (test x) (every test (take i xs)) (test (get_or xs i d))))

-- The test of every element in the library's word.
pub every_is_all : {A : Type 0} (test : A → Bool) (xs : List A) → every test xs ≡ list_all test xs
every_is_all test [] = refl
every_is_all test (x ∷ xs) = ap (λ rest. test x && rest) (every_is_all test xs)

pub every_reverse : {A : Type 0} (P : A → Type 0) (xs : List A) → Every P xs → Every P (reverse xs)
every_reverse P [] e = tt
every_reverse P (x ∷ xs) e = rw (reverse-cons x xs) (every_append P (reverse xs) (x ∷ []) (every_reverse P xs e.1) (e.0, tt))

pub every_pad : {A : Type 0} (P : A → Type 0) (size : ℕ) (blank : A) (xs : List A) → P blank → Every P xs → Every P (pad size blank xs)
every_pad P size blank xs b e = every_append P xs (replicate (size - length xs) blank) e (blanks (size - length xs))
  where
    blanks : (n : ℕ) → Every P (replicate n blank)
    blanks zero = tt
    blanks (suc n) = (b, blanks n)

-- Lists that agree are equal, where elements that agree are.
pub same_equal : {A : Type 0} (agree : A → A → Bool) → ((x y : A) → agree x y ≡ true → x ≡ y)
    → (xs ys : List A) → same agree xs ys ≡ true → xs ≡ ys
same_equal agree equal [] [] e = refl
same_equal agree equal [] (y ∷ ys) e = cc
same_equal agree equal (x ∷ xs) [] e = cc
same_equal agree equal (x ∷ xs) (y ∷ ys) e =
    let both = (and-eq-true_iff (agree x y) (same agree xs ys)).0 e in
    rw (equal x y both.0, same_equal agree equal xs ys both.1)

-- To agree with a run of one element is a test of each element.
pub same_replicate : {A : Type 0} (agree : A → A → Bool) (y : A) (xs : List A) (n : ℕ) → length xs ≡ n
    → same agree xs (replicate n y) ≡ every (λ x. agree x y) (take n xs)
same_replicate agree y [] zero e = refl
same_replicate agree y [] (suc n) e = let never : ⊥ = omega arith in absurd never
same_replicate agree y (x ∷ xs) zero e = let never : ⊥ = omega arith in absurd never
same_replicate agree y (x ∷ xs) (suc n) e = rw (same_replicate agree y xs n (suc_inj e))
