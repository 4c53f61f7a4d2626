-- Lists changed place for place. Assumes nothing.
use Rattle.common.proofs.Words.{◌≡◌, refl, ap, List, [], ◌∷◌, ◌++◌, map, ℕ, zero, suc, ◌<◌, le_of_lt, arith}
use Rattle.common.proofs.Words.{length, get_or, set, take, drop, drop-cons, take-suc, append_snoc, length-take-le}
use Rattle.std.proofs.lemmas.List.{set_at}

module _ {A : Type 0} where
  -- The front of a list exchanged for another as long.
  pub take_exchanged : (n : ℕ) (xs ys : List A) → length ys ≡ length (take n xs) → take n (ys ++ drop n xs) ≡ ys
  take_exchanged zero xs [] e = refl
  take_exchanged zero xs (y ∷ ys) e = absurd (omega arith)
  take_exchanged (suc n) [] [] e = refl
  take_exchanged (suc n) [] (y ∷ ys) e = absurd (omega arith)
  take_exchanged (suc n) (x ∷ xs) [] e = absurd (omega arith)
  take_exchanged (suc n) (x ∷ xs) (y ∷ ys) e = ap (y ∷◌) (take_exchanged n xs ys (omega arith))

  pub drop_exchanged : (n : ℕ) (xs ys : List A) → length ys ≡ length (take n xs) → drop n (ys ++ drop n xs) ≡ drop n xs
  drop_exchanged zero xs [] e = refl
  drop_exchanged zero xs (y ∷ ys) e = absurd (omega arith)
  drop_exchanged (suc n) [] [] e = refl
  drop_exchanged (suc n) [] (y ∷ ys) e = absurd (omega arith)
  drop_exchanged (suc n) (x ∷ xs) [] e = absurd (omega arith)
  drop_exchanged (suc n) (x ∷ xs) (y ∷ ys) e = drop_exchanged n xs ys (omega arith)

  -- One list put over another from behind: the next place still has what it had,
  pub read_back : (old new : List A) (d : A) (i : ℕ) → i < length old
      → get_or (take (suc i) old ++ drop (suc i) new) i d ≡ get_or old i d
  read_back (x ∷ old) [] d zero h = refl
  read_back (x ∷ old) (y ∷ new) d zero h = refl
  read_back (x ∷ old) [] d (suc i) h = read_back old [] d i (omega arith)
  read_back (x ∷ old) (y ∷ new) d (suc i) h = read_back old new d i (omega arith)
  read_back [] new d i h = absurd (omega arith)

  -- and is put over.
  pub put_back : (old new : List A) (d : A) (i : ℕ) → i < length old → length old ≡ length new
      → set (take (suc i) old ++ drop (suc i) new) i (get_or new i d) ≡ take i old ++ drop i new
  put_back old new d i h long =
      rw (drop-cons new i d (omega arith), take-suc old i d h, append_snoc (take i old) (get_or old i d) (drop (suc i) new))
      (set_at (take i old) (get_or old i d) (drop (suc i) new) (get_or new i d) i (length-take-le i old (le_of_lt h)))

  -- Each place from the front on made what f makes of it.
  pub put_front : (f : A → A) (old : List A) (d : A) (i : ℕ) → i < length old
      → let now = take i (map f old) ++ drop i old in set now i (f (get_or now i d)) ≡ take (suc i) (map f old) ++ drop (suc i) old
  put_front f [] d i h = absurd (omega arith)
  put_front f (x ∷ old) d zero h = refl
  put_front f (x ∷ old) d (suc i) h = ap (f x ∷◌) (put_front f old d i (omega arith))
