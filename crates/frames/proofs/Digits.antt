-- Laws of digits. Assumes nothing.
use Rattle.std.specs.Prelude.{Some, None, IfSome, Result, Ok, Err, OkIff}
use Rattle.std.specs.Result.{result_ok}
use Rattle.common.proofs.Words.{◌≡◌, refl, sym, ap, ◌∙◌, true, false, ◌&&◌, and-eq-true_iff, ◌⊎◌, inl, inr, ⊎_elim, List, [], ◌∷◌, ◌++◌, ℕ}
use Rattle.common.proofs.Words.{zero, suc, ◌+◌, ◌-◌, ◌*◌, ◌/◌, ◌^◌, ◌≤◌, ◌<◌, add-zero, add-suc, suc-add, lt_of_lt_of_le}
use Rattle.common.proofs.Words.{pow-suc, arith, add-one, leb, length, get_or, take, drop, length-append, take-suc}
use Rattle.common.proofs.Words.{leb-true, le-leb, lt-leb, lt-ltb, le-ltb}
use native.Mathlib.Nat.{pow-le-pow_right}
use Rattle.lists.specs.Every.{every}
use Rattle.common.proofs.Cases.{by_test}
use Rattle.frames.specs.Digits.{is_digit, value_of, no_digit, value_or, glyph, digits, number_from, number_of, number_in, read_from, read_of}

-- A digit is one of the two runs of characters.
between : (a b c : ℕ) → (leb a c && leb c b) ≡ true → (a ≤ c) × (c ≤ b)
between a b c e = let both = (and-eq-true_iff (leb a c) (leb c b)).0 e in (leb-true a c both.0, leb-true c b both.1)

digit_range : (c : ℕ) → is_digit c ≡ true → ((48 ≤ c) × (c ≤ 57)) ⊎ ((97 ≤ c) × (c ≤ 102))
unfolding is_digit
digit_range c e = by_test (leb 48 c && leb c 57) (λ f. inl (between 48 57 c f)) (λ f. inr (between 97 102 c (rw f at e)))

pub value_small : (c : ℕ) → is_digit c ≡ true → value_of c ≤ 15
value_small c e =
    ⊎_elim (λ r. rw (le-leb c 57 r.1) (omega arith)) (λ r. rw (lt-leb c 57 (omega arith)) (omega arith)) (digit_range c e)

-- The character of its value.
glyph_value : (c : ℕ) → is_digit c ≡ true → c ≡ glyph (value_of c)
glyph_value c e =
    ⊎_elim (λ r. rw (le-leb c 57 r.1, lt-ltb (c - 48) 10 (omega arith)) (omega arith))
    (λ r. rw (lt-leb c 57 (omega arith), le-ltb (c - 87) 10 (omega arith)) (omega arith))
    (digit_range c e)

-- What is read of a character.
pub value_digit : (c : ℕ) → is_digit c ≡ true → value_or c ≡ value_of c
unfolding value_or
value_digit c e = rw e

value_none : (c : ℕ) → is_digit c ≡ false → value_or c ≡ no_digit
unfolding value_or
value_none c e = rw e

pub value_most : (c : ℕ) → value_or c ≤ no_digit
value_most c = by_test (is_digit c) (λ e. omega (arith, value_digit c e, value_small c e)) (λ e. omega (arith, value_none c e))

pub char_of : (c k : ℕ) → k < 16 → value_or c ≡ k → c ≡ glyph k
char_of c k h v =
    by_test (is_digit c) (λ e. glyph_value c e ∙ ap glyph (sym (value_digit c e) ∙ v)) (λ e. absurd (omega (arith, value_none c e)))

-- One more digit behind others.
pub number_snoc : (n : ℕ) (cs : List ℕ) (c : ℕ) → number_from n (cs ++ (c ∷ [])) ≡ number_from n cs * 16 + value_of c
number_snoc n [] c = refl
number_snoc n (d ∷ cs) c = number_snoc (n * 16 + value_of d) cs c

-- One more character.
read_snoc : (n : ℕ) (cs : List ℕ) (c : ℕ) → read_from n (cs ++ (c ∷ [])) ≡ read_from n cs * 16 + value_or c
read_snoc n [] c = refl
read_snoc n (d ∷ cs) c = read_snoc (n * 16 + value_or d) cs c

pub read_suc : (cs : List ℕ) (i : ℕ) → i < length cs → read_of (take (suc i) cs) ≡ read_of (take i cs) * 16 + value_or (get_or cs i 0)
read_suc cs i h = ap read_of (take-suc cs i 0 h) ∙ read_snoc 0 (take i cs) (get_or cs i 0)

-- The most that so many characters come to: eight fit 64 bits.
unfoldable pub cap : ℕ → ℕ
cap zero = 0
cap (suc i) = cap i * 16 + no_digit

cap_on : (i k : ℕ) → cap i ≤ cap (i + k)
unfolding cap
cap_on i zero = rw (add-zero i) (omega arith)
cap_on i (suc k) = rw (add-suc i k) (omega (arith, cap_on i k))

pub cap_next : (n v i : ℕ) → n ≤ cap i → v ≤ no_digit → n * 16 + v ≤ cap (suc i)
unfolding cap
cap_next n v i h k = omega arith

pub cap_within : (n i : ℕ) → n ≤ cap i → i < 8 → n * 16 + no_digit < 18446744073709551616
unfolding cap
cap_within n i h l =
    let seven : i + (7 - i) ≡ 7 = omega arith in
    let more : cap i ≤ cap 7 = rw seven at (cap_on i (7 - i)) in
    omega arith

-- Below 2 ^ 32, all are digits and what is read is their number.
read_least : (n : ℕ) (cs : List ℕ) → n ≤ read_from n cs
read_least n [] = omega arith
read_least n (c ∷ cs) = omega (arith, read_least (n * 16 + value_or c) cs)

pub read_digits : (n : ℕ) (cs : List ℕ) → read_from n cs < no_digit → every is_digit cs ≡ true
read_digits n [] h = refl
read_digits n (c ∷ cs) h =
    by_test (is_digit c) (λ e. rw e (read_digits (n * 16 + value_or c) cs h))
    (λ e. absurd (omega (arith, value_none c e, read_least (n * 16 + value_or c) cs)))

pub digits_read : (n : ℕ) (cs : List ℕ) → every is_digit cs ≡ true → read_from n cs ≡ number_from n cs
digits_read n [] e = refl
digits_read n (c ∷ cs) e =
    let both = (and-eq-true_iff (is_digit c) (every is_digit cs)).0 e in
    rw (value_digit c both.0) (digits_read (n * 16 + value_of c) cs both.1)

-- Parts of digits are digits.
pub digits_part : (k m : ℕ) (line : List ℕ) → every is_digit line ≡ true → every is_digit (take m (drop k line)) ≡ true
digits_part zero zero line e = refl
digits_part zero (suc m) [] e = refl
digits_part zero (suc m) (c ∷ cs) e =
    let both = (and-eq-true_iff (is_digit c) (every is_digit cs)).0 e in
    (and-eq-true_iff (is_digit c) (every is_digit (take m cs))).1 (both.0, digits_part zero m cs both.1)
digits_part (suc k) zero [] e = refl
digits_part (suc k) (suc m) [] e = refl
digits_part (suc k) m (c ∷ cs) e = digits_part k m cs ((and-eq-true_iff (is_digit c) (every is_digit cs)).0 e).1

-- So many digits at most.
number_grown : (n k : ℕ) (cs : List ℕ) → n < 16 ^ k → every is_digit cs ≡ true → number_from n cs < 16 ^ (k + length cs)
number_grown n k [] h e = rw (add-zero k) h
number_grown n k (c ∷ cs) h e =
    let both = (and-eq-true_iff (is_digit c) (every is_digit cs)).0 e in
    let next : n * 16 + value_of c < 16 ^ suc k = rw (pow-suc 16 k) (omega (arith, h, value_small c both.0)) in
    rw (add-suc k (length cs), ← suc-add k (length cs)) (number_grown (n * 16 + value_of c) (suc k) cs next both.1)

pub read_below : (cs : List ℕ) (k : ℕ) → length cs ≤ k → every is_digit cs ≡ true → read_of cs < 16 ^ k
read_below cs k h e =
    let grown : number_of cs < 16 ^ (0 + length cs) = number_grown 0 0 cs (omega arith) e in
    rw (digits_read 0 cs e) (lt_of_lt_of_le grown (pow-le-pow_right {n = 16} (omega arith) {i = 0 + length cs} {j = k} (omega arith)))

-- The number that digits show, by what is read of them.
module _ (cs : List ℕ) where
  pub number_found : read_of cs < no_digit → Some (read_of cs) ≡ number_in cs
  number_found h = let digits = read_digits 0 cs h in rw (digits, digits_read 0 cs digits) refl

  pub number_bound : read_of cs < no_digit → read_of cs < 16 ^ length cs
  number_bound h = read_below cs (length cs) (omega arith) (read_digits 0 cs h)

  pub number_missing : length cs ≤ 8 → no_digit ≤ read_of cs → None ≡ number_in cs
  number_missing few h =
      by_test (every is_digit cs) (λ digits. absurd (omega (arith, read_below cs 8 few digits))) (λ others. rw others refl)

-- The same of what 32 bits hold of it.
module _ (cs : List ℕ) {E : Type 0} where
  pub number_held : (r : Result ℕ E) → OkIff r (read_of cs < no_digit) (read_of cs) → length cs ≤ 8 → result_ok r ≡ number_in cs
  number_held (Ok n) fits few = ap Some fits.1 ∙ number_found cs fits.0
  number_held (Err e) fits few = number_missing cs few (omega (arith, fits))

  pub held_bound : (r : Result ℕ E) → OkIff r (read_of cs < no_digit) (read_of cs) → IfSome (result_ok r) (λ n. n < 16 ^ length cs)
  held_bound (Ok n) fits = rw fits.1 (number_bound cs fits.0)
  held_bound (Err e) fits = tt

-- The length of a number in digits.
pub length_digits : (base k n : ℕ) → length (digits base k n) ≡ k
unfolding digits
length_digits base zero n = refl
length_digits base (suc k) n = rw (length-append, length_digits base k (n / base)) (add-one k)
