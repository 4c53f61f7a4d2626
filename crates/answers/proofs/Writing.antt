-- Laws of writing. Assumes nothing.
use Rattle.common.proofs.Words.{◌≡◌, refl, sym, ap, ◌∙◌, List, [], ◌∷◌, ◌++◌, append_assoc, append-nil}
use Rattle.common.proofs.Words.{ℕ, zero, suc, ◌+◌, ◌-◌, ◌*◌, ◌/◌, ◌%◌, ◌≤◌, ◌<◌, add-zero, zero-add, add-suc, suc-add, add-one, arith}
use Rattle.common.proofs.Words.{length, get_or, set, take, drop, replicate, length-append, length-drop, length-replicate, length-set, lt-ltb}
use Rattle.common.proofs.Words.{length-take-le, take_all, take-append_seam, drop-drop, drop-cons, drop_of_length-le, ℤ, pos, negsuc, w32, of_z}
use native.Mathlib.Nat.{zero-div, zero-mod}
use lib.{ListN.replicate-append-replicate, Seq.set_comm, Seq.drop-append_seam, Seq.set_at}
use borrow.Rule.Slice.PartMut.{put_mid}
use Rattle.std.specs.Prelude.{Option, Some, None}
use Rattle.std.proofs.lemmas.{List.drop-set, List.Edits.sets-eq}
use Rattle.lists.specs.Joined.{joined}
use Rattle.lists.proofs.Joined.{joined_next}
use Rattle.calendar.specs.{declared.Date.Date, Conversions.to_date}
use Rattle.ledger.specs.declared.Item.{Item}
use Rattle.account.specs.declared.Answer.{Answer}
use Rattle.frames.specs.Digits.{glyph, digits, bytes, written}
use Rattle.frames.proofs.Digits.{length_digits}
use Rattle.answers.specs.Answers.{twos_complement, answer_head, answer_amounts}
use Rattle.answers.specs.Notices.{date_digits, notice_line, notice_length}

-- One text behind another is written behind it.
pub written_behind : (text : List ℕ) (at : ℕ) (xs ys : List ℕ)
    → written text at (xs ++ ys) ≡ written (written text at xs) (at + length xs) ys
written_behind text at [] ys = rw (add-zero at)
written_behind text at (x ∷ xs) ys = rw (add-suc at (length xs), ← suc-add at (length xs)) (written_behind (set text at x) (suc at) xs ys)

-- What is written behind a text that stands.
pub written_on : (text : List ℕ) (at : ℕ) (xs ys : List ℕ) (n : ℕ) {one two : List ℕ} → length xs ≡ n → one ≡ written text at xs
    → two ≡ written one (at + n) ys → two ≡ written text at (xs ++ ys)
written_on text at xs ys n l e f = rw (f, e, ← l) (sym (written_behind text at xs ys))

-- What a part is filled with is written from its place on.
pub written_part : (text : List ℕ) (at k : ℕ) (xs : List ℕ) → k ≡ length xs → at + length xs ≤ length text → put_mid at k text xs ≡ written text at xs
written_part text at k xs e h =
    rw (e, drop-drop (length xs) at text, sets-eq xs text at h) (sym (append_assoc (take at text) xs (drop (at + length xs) text)))

-- What is written at the front of a part from a place on is written from there on.
pub written_in_part : (text : List ℕ) (at : ℕ) (xs : List ℕ) {part : List ℕ} → at + length xs ≤ length text
    → part ≡ written (take (length text - at) (drop at text)) 0 xs → put_mid at (length text - at) text part ≡ written text at xs
written_in_part text at xs h e =
    let rest = drop at text in
    let whole : take (length text - at) rest ≡ rest = take_all (length text - at) rest (omega (arith, length-drop at text)) in
    let within : 0 + length xs ≤ length rest = omega (arith, length-drop at text) in
    let front = rw (zero-add (length xs)) at (sets-eq xs rest 0 within) in
    let none : drop (length text - at) rest ≡ [] = drop_of_length-le rest {i = length text - at} (omega (arith, length-drop at text)) in
    rw (e, whole, front, none, append-nil (xs ++ drop (length xs) rest), drop-drop (length xs) at text, sets-eq xs text at h)
    (sym (append_assoc (take at text) xs (drop (at + length xs) text)))

-- What is written over a text of its length is all that stands there.
pub written_all : (text : List ℕ) {xs now : List ℕ} → length text ≡ length xs → now ≡ written text 0 xs → now ≡ xs
written_all text {xs} long is =
    let front = rw (zero-add (length xs)) at (sets-eq xs text 0 (omega arith)) in
    let none : drop (length xs) text ≡ [] = drop_of_length-le text {i = length xs} (omega arith) in
    rw (is, front, none, append-nil xs)

-- Zero is so many characters 0.
pub digits_zero : (base k : ℕ) → digits base k 0 ≡ replicate k 48
unfolding digits
digits_zero base zero = refl
digits_zero base (suc k) = rw (zero-div base, zero-mod base, digits_zero base k, replicate-append-replicate {A = ℕ} k 1 48, add-one k)

-- One digit more, from the last on: those that are left stand before those that are put.
pub digits_next : (base i n : ℕ) (text : List ℕ) → i < length text
    → digits base (i + 1) n ++ drop (i + 1) text ≡ digits base i (n / base) ++ drop i (set text i (glyph (n % base)))
unfolding digits
digits_next base i n text h =
    let last = glyph (n % base) in
    rw (add-one i, drop-set text i last h, add-one i, append_assoc (digits base i (n / base)) (last ∷ []) (drop (suc i) text))

-- One byte more.
pub bytes_next : (i n : ℕ) (text : List ℕ) → 2 * i + 1 < length text
    → bytes (i + 1) n ++ drop (2 * (i + 1)) text
    ≡ bytes i (n / 256) ++ drop (2 * i) (set (set text (2 * i) (glyph (n % 256 / 16))) (2 * i + 1) (glyph (n % 256 % 16)))
bytes_next i n text h =
    let two : 2 * (i + 1) ≡ 2 * i + 1 + 1 = omega arith in
    let high : n % 256 / 16 ≡ n / 16 % 16 = omega arith in
    let low : n % 256 % 16 ≡ n % 16 = omega arith in
    let rest : n / 256 ≡ n / 16 / 16 = omega arith in
    let one = set text (2 * i + 1) (glyph (n % 16)) in
    let within : 2 * i < length one = rw (length-set text (2 * i + 1) (glyph (n % 16))) (omega arith) in
    rw (two, high, low, rest, set_comm text (2 * i) (2 * i + 1) (glyph (n / 16 % 16)) (glyph (n % 16)) (λ e. omega arith))
    (digits_next 16 (2 * i + 1) n text h ∙ digits_next 16 (2 * i) (n / 16) one within)

-- A decimal digit.
pub decimal_glyph : (d : ℕ) → d < 10 → glyph d ≡ 48 + d
decimal_glyph d h = rw (lt-ltb d 10 h)

-- The bits of a net.
pub net_bits : (net : ℤ) → of_z w32 net ≡ twos_complement net
net_bits (pos n) = refl
net_bits (negsuc n) = refl

-- Texts put one behind the other at the front of a buffer: what stands there, and its length.
pub record Put (old xs : List ℕ) (n : ℕ) (now : List ℕ) : Type 0 where
  pub stands : now ≡ xs ++ drop n old
  pub long : length xs ≡ n

pub put_none : (old : List ℕ) → Put old [] 0 old
put_none old = record { stands = refl; long = refl }

pub put_first : (old : List ℕ) {xs now : List ℕ} {n : ℕ} → length xs ≡ n → now ≡ xs → Put old xs n (now ++ drop n old)
put_first old {xs} {now} {n} l e = record { stands = ap (λ t. t ++ drop n old) e; long = l }

module _ {old xs one : List ℕ} {n : ℕ} (p : Put old xs n one) where
  -- one text more, in a part of its length
  pub put_part : {ys part : List ℕ} {m k : ℕ} → length ys ≡ m → part ≡ ys → k ≡ m → Put old (xs ++ ys) (n + m) (put_mid n k one part)
  put_part {ys} {part} {m} {k} l e size =
      let front : take n (xs ++ drop n old) ≡ xs = rw (← p.long) (take-append_seam xs (drop (length xs) old)) in
      let behind : drop n (xs ++ drop n old) ≡ drop n old = rw (← p.long) (drop-append_seam xs (drop (length xs) old)) in
      record {
        stands = rw (size, e, p.stands, front, behind, drop-drop m n old, append_assoc xs ys (drop (n + m) old));
        long = rw (length-append, p.long, l);
      }

  -- a text written at the front of a part of its length
  pub put_front : {ys part : List ℕ} {m k : ℕ} → length ys ≡ m → n + m ≤ length old → k ≡ m → part ≡ written (take k (drop n one)) 0 ys → part ≡ ys
  put_front {ys} {part} {m} {k} l h size e =
      let behind : drop n (xs ++ drop n old) ≡ drop n old = rw (← p.long) (drop-append_seam xs (drop (length xs) old)) in
      let rest : m ≤ length (drop n old) = rw (length-drop n old) (omega arith) in
      let long : length (take k (drop n one)) ≡ length ys = rw (size, p.stands, behind) (length-take-le m (drop n old) rest ∙ sym l) in
      written_all (take k (drop n one)) long e

  pub put_more : {ys part : List ℕ} {m : ℕ} → length ys ≡ m → part ≡ ys → Put old (xs ++ ys) (n + m) (put_mid n m one part)
  put_more l e = put_part l e refl

  -- a run of one character more
  pub put_run : (m y : ℕ) {part : List ℕ} {k : ℕ} → part ≡ replicate k y → k ≡ m → Put old (xs ++ replicate m y) (n + m) (put_mid n m one part)
  put_run m y e size = put_more (length-replicate m y) (e ∙ ap (λ i. replicate i y) size)

  -- one character more
  pub put_last : (y : ℕ) → n < length old → Put old (xs ++ (y ∷ [])) (n + 1) (set one n y)
  put_last y h =
      let rest = drop (suc n) old in
      record {
        stands = rw (p.stands, drop-cons old n 0 h, set_at xs (get_or old n 0) rest y n p.long, add-one n, append_assoc xs (y ∷ []) rest);
        long = rw (length-append, p.long);
      }

  -- all there is room for
  pub put_all : length old ≡ n → one ≡ xs
  put_all l = p.stands ∙ rw (drop_of_length-le old {i = n} (omega arith), append-nil xs)

  pub put_written : n ≤ length old → one ≡ written old 0 xs
  put_written h =
      let at_front = rw (zero-add (length xs)) at (sets-eq xs old 0 (rw (zero-add (length xs), p.long) h)) in
      p.stands ∙ rw (← p.long) (sym at_front)

-- One text more of those of a list, all of one length.
module _ {A : Type 0} (write : A → List ℕ) (width : ℕ) (same : (x : A) → length (write x) ≡ width) (xs : List A) where
  pub put_next : (i : ℕ) (blank : A) {old one part : List ℕ} {k : ℕ} → i < length xs → Put old (joined write (take i xs)) (width * i) one
      → part ≡ write (get_or xs i blank) → k ≡ width → Put old (joined write (take (i + 1) xs)) (width * (i + 1)) (put_mid (width * i) k one part)
  put_next i blank h p e size =
      let next : width * (i + 1) ≡ width * i + width = omega arith in
      rw (next, joined_next write xs i blank h) (put_part p (same (get_or xs i blank)) e size)

  pub put_listed : {i : ℕ} {old one : List ℕ} → i ≡ length xs → Put old (joined write (take i xs)) (width * i) one
      → length old ≡ width * length xs → one ≡ joined write xs
  put_listed {i} e p long = rw (take_all i xs (omega arith)) at (put_all p (rw e long))

pub length_date : (found : Option Date) → length (date_digits found) ≡ 8
length_date (Some date) = simp (length-append, length_digits)
length_date None = length_digits 10 8 0

pub length_head : (answer : Answer) → length (answer_head answer) ≡ 12
length_head answer = simp (length-append, length_digits)

pub length_amounts : (answer : Answer) → length (answer_amounts answer) ≡ 48
length_amounts answer = simp (length-append, length_digits)

pub length_notice : (item : Item) → length (notice_line item) ≡ notice_length
unfolding notice_line
length_notice item = simp (length-append, length_digits, length_date (to_date item.obligation), length_date (to_date item.due))
