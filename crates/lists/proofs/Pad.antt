-- Laws of lists as arrays hold them: padded, filled from the front, and their parts. Assumes nothing.
use mathlib.Core.Path.{◌≡◌, sym, ◌∙◌}
use mathlib.Core.List.{List, [], ◌∷◌, ◌++◌, map, map-append}
use Prim.Native.Nat.{ℕ, zero, suc, ◌-◌, min, ◌≤◌, ◌<◌}
use native.Mathlib.Nat.{le_of_lt, sub-zero}
use native.Mathlib.Omega.{arith}
use lib.ListN.{length, length-append, length-take, length-map, replicate, length-replicate, get_or, set, take, drop}
use lib.Seq.{drop-cons, take-append_seam, take_all, take-suc, length-take-le, append_snoc}
use native.Mathlib.{Nat.zero-sub, Nat.suc-sub-suc, Omega.min_cases}
use lib.{ListN.get_or-append, Seq.take-nil, Seq.set_at}
use Rattle.lists.specs.Pad.{pad}

module _ {A : Type 0} (blank : A) where
  pub length_pad : (size : ℕ) (xs : List A) → length xs ≤ size → length (pad size blank xs) ≡ size
  length_pad size xs h = simp (length-append, length-replicate) (omega arith)

  -- A store behind the list, at the first blank, makes the list longer by one.
  pub pad_store : (size i : ℕ) (xs : List A) (x : A) → length xs ≡ i → i < size
      → set (pad size blank xs) i x ≡ pad size blank (xs ++ (x ∷ []))
  pad_store size i xs x e h =
      let more : size - length xs ≡ suc (size - suc i) = omega arith in
      let rest : size - length (xs ++ (x ∷ [])) ≡ size - suc i = rw (length-append xs (x ∷ [])) (omega arith) in
      let behind = replicate (size - suc i) blank in
      rw (more, rest, set_at xs blank behind x i e, append_snoc xs x behind)

  -- what was padded is the front
  pub take_pad : (size : ℕ) (xs : List A) → take (length xs) (pad size blank xs) ≡ xs
  take_pad size xs = take-append_seam xs (replicate (size - length xs) blank)

-- A list has the length of what it is mapped to: what is known of an array of structs is known of its machine values.
pub length_of_mapped : {A B : Type 0} (f : A → B) (xs : List A) (n : ℕ) → length (map f xs) ≡ n → length xs ≡ n
length_of_mapped f xs n e = sym (length-map xs f) ∙ e

-- one element more
pub map_take_suc : {A B : Type 0} (f : A → B) (xs : List A) (i : ℕ) (d : A) → i < length xs
    → map f (take (suc i) xs) ≡ map f (take i xs) ++ (f (get_or xs i d) ∷ [])
map_take_suc f xs i d h = rw (take-suc xs i d h) (map-append f (take i xs) (get_or xs i d ∷ []))

pub length_map_take : {A B : Type 0} (f : A → B) (xs : List A) (i : ℕ) → i ≤ length xs → length (map f (take i xs)) ≡ i
length_map_take f xs i h = length-map (take i xs) f ∙ length-take-le i xs h

-- An array that is filled from the front with f of each element.
pub pad_map_next : {A B : Type 0} (f : A → B) (blank : B) (size : ℕ) (xs : List A) (i : ℕ) (d : A) → i < length xs → i < size
    → set (pad size blank (map f (take i xs))) i (f (get_or xs i d)) ≡ pad size blank (map f (take (suc i) xs))
pad_map_next f blank size xs i d h within =
    rw (map_take_suc f xs i d h)
    (pad_store blank size i (map f (take i xs)) (f (get_or xs i d)) (length_map_take f xs i (le_of_lt h)) within)

-- An array that is filled from the front with the elements.
pub pad_next : {A : Type 0} (blank : A) (size : ℕ) (xs : List A) (i : ℕ) (d : A) → i < length xs → i < size
    → set (pad size blank (take i xs)) i (get_or xs i d) ≡ pad size blank (take (suc i) xs)
pad_next blank size xs i d h within =
    rw (take-suc xs i d h) (pad_store blank size i (take i xs) (get_or xs i d) (length-take-le i xs (le_of_lt h)) within)

pub drop_replicate : {A : Type 0} (x : A) (i n : ℕ) → drop i (replicate n x) ≡ replicate (n - i) x
drop_replicate x zero n = rw (sub-zero n)
drop_replicate x (suc i) zero = rw (zero-sub (suc i))
drop_replicate x (suc i) (suc n) = rw (suc-sub-suc n i) (drop_replicate x i n)

-- a part from a place on, of a front
pub drop_take : {A : Type 0} (n m : ℕ) (xs : List A) → drop n (take m xs) ≡ take (m - n) (drop n xs)
drop_take zero m xs = rw (sub-zero m)
drop_take (suc n) zero xs = rw (zero-sub (suc n))
drop_take (suc n) (suc m) [] = rw (take-nil (suc m - suc n))
drop_take (suc n) (suc m) (x ∷ xs) = rw (suc-sub-suc m n) (drop_take n m xs)

pub length_take_most : {A : Type 0} (n : ℕ) (xs : List A) → length (take n xs) ≤ n
length_take_most n xs = omega (arith, length-take n xs)

-- More than there are is all there are.
pub take_past : {A : Type 0} (n m : ℕ) (xs : List A) → length xs ≡ m → m ≤ n → take n xs ≡ take m xs
take_past n m xs l h = take_all n xs (omega arith) ∙ sym (take_all m xs (omega arith))

pub get_or_pad : {A : Type 0} (blank : A) (size : ℕ) (xs : List A) (i : ℕ) → i < length xs
    → get_or (pad size blank xs) i blank ≡ get_or xs i blank
get_or_pad blank size xs i h = get_or-append xs (replicate (size - length xs) blank) blank i h

-- The front of one list put over the front of another, one place after another.
pub fill_next : {A : Type 0} (front rest : List A) (d : A) (i : ℕ) → i < length front → length front ≤ length rest
    → set (take i front ++ drop i rest) i (get_or front i d) ≡ take (suc i) front ++ drop (suc i) rest
fill_next front rest d i h long =
    rw (drop-cons rest i d (omega arith), take-suc front i d h, append_snoc (take i front) (get_or front i d) (drop (suc i) rest))
    (set_at (take i front) (get_or rest i d) (drop (suc i) rest) (get_or front i d) i (length-take-le i front (omega arith)))

-- No more elements than there are.
pub take_min : {A : Type 0} (n m : ℕ) (xs : List A) → length xs ≡ m → take (min n m) xs ≡ take n xs
take_min n m xs l = min_cases n m (take (min n m) xs ≡ take n xs) (λ h e. rw e) (λ h e. rw (e, take_past n m xs l h))
