-- Laws of joined texts: two lists, one element more, and texts of one length. Assumes nothing.
use mathlib.Core.Path.{◌≡◌, refl, ap, ◌∙◌}
use mathlib.Core.List.{List, [], ◌∷◌, ◌++◌, append_assoc, append-nil}
use Prim.Native.Nat.{ℕ, ◌+◌, ◌*◌, ◌≤◌, ◌<◌}
use native.Mathlib.Numerals.{add-one}
use native.Mathlib.Omega.{arith}
use lib.ListN.{length, get_or, take, length-append}
use lib.Seq.{take-suc, length-take-le}
use Rattle.lists.specs.Joined.{joined}

module _ {A : Type 0} (text : A → List ℕ) where
  pub joined_behind : (xs ys : List A) → joined text (xs ++ ys) ≡ joined text xs ++ joined text ys
  joined_behind [] ys = refl
  joined_behind (x ∷ xs) ys = rw (joined_behind xs ys, append_assoc (text x) (joined text xs) (joined text ys))

  -- one element more
  pub joined_next : (xs : List A) (i : ℕ) (blank : A) → i < length xs
      → joined text (take (i + 1) xs) ≡ joined text (take i xs) ++ text (get_or xs i blank)
  joined_next xs i blank h =
      let x = get_or xs i blank in
      rw (add-one i, take-suc xs i blank h, joined_behind (take i xs) (x ∷ []), append-nil (text x))

  -- texts of one length
  module _ (width : ℕ) (same : (x : A) → length (text x) ≡ width) where
    pub joined_length : (xs : List A) → length (joined text xs) ≡ width * length xs
    joined_length [] = omega arith
    joined_length (x ∷ xs) = omega (arith, length-append (text x) (joined text xs), same x, joined_length xs)

    pub joined_taken : (xs : List A) (i : ℕ) → i ≤ length xs → length (joined text (take i xs)) ≡ width * i
    joined_taken xs i h = joined_length (take i xs) ∙ ap (λ n. width * n) (length-take-le i xs h)
