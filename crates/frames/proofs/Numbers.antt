-- Laws of frames as numbers: the fields read in some bytes are those of the frame that begins them. Assumes nothing.
use Rattle.std.specs.Prelude.{Some, None}
use Rattle.std.specs.List.{between}
use Rattle.std.proofs.lemmas.Option.{cond_some}
use Rattle.common.proofs.Words.{true≢false, ◌≡◌, refl, sym, ap, subst, ◌∙◌, true, cond, List, [], ◌∷◌, ℕ, zero, suc, ◌+◌, ◌-◌}
use Rattle.common.proofs.Words.{◌≤◌, ◌<◌, zero-add, arith, eqb, leb, leb-true, leb-false, length, get_or, take, drop, length-take-le, rules}
use Rattle.common.proofs.Words.{take-add, take-take, get_or-take, eq-eqb, eqb-true}
use Rattle.lists.specs.Every.{every}
use Rattle.common.proofs.Cases.{by_test, by_order}
use Rattle.lists.proofs.Every.{every_true, every_in_front, every_behind}
use Rattle.intake.specs.declared.Call.{Call}
use Rattle.frames.specs.Digits.{is_digit, value_of, value_or, number_of, number_in, line_feed}
use Rattle.frames.specs.Numbers.{number_of_kind, character_of, Widths, widths, widths_by, call_by, Begins, FrameAt, BeginsKind}
use Rattle.frames.specs.{declared.FrameKind.FrameKind, Layout.layout, Layout.longest_frame, Layout.framed, Frames.kind_of, Frames.parsed}
use Rattle.frames.specs.declared.FrameKind.TheVariants.{Opening, Reading, Missed, Absent, Exchange, Disconnection, Reconnection, Cancellation}
use Rattle.frames.specs.declared.FrameKind.TheVariants.{Payment, StoppedCancellation}
use Rattle.frames.proofs.Digits.{value_digit, digits_part}
use Rattle.frames.proofs.Frames.{frame_at, parsed_digits, parsed_others, too_short, other_first, begins_with, digits_begin, kind_is, unknown_kind}

-- A part of a front.
part_of : (k m n : ℕ) (xs : List ℕ) → k + m ≤ n → take m (drop k (take n xs)) ≡ take m (drop k xs)
part_of zero m n xs h = take-take m n xs (omega arith)
part_of (suc k) m zero xs h = absurd (omega arith)
part_of (suc k) m (suc n) [] h = refl
part_of (suc k) m (suc n) (x ∷ xs) h = part_of k m n xs (omega arith)

abbrev number_at : List ℕ → ℕ → ℕ → ℕ
number_at line from width = number_of (take width (drop from line))

-- Where the second, the third and the short field begin, and where the frame ends.
abbrev second_at : Widths → ℕ
second_at w = 6 + w.first

abbrev third_at : Widths → ℕ
third_at w = second_at w + w.second

abbrev short_at : Widths → ℕ
short_at w = third_at w + w.third

abbrev end_of : Widths → ℕ
end_of w = short_at w + w.short

-- The call that the fields of a line make, by their widths.
abbrev called_in : FrameKind → Widths → List ℕ → Call
called_in kind w line =
    call_by kind (number_at line 2 4) (number_at line 6 w.first) (number_at line (second_at w) w.second)
    (number_at line (third_at w) w.third) (number_at line (short_at w) w.short)

-- A row as numbers: its character, the widths of its fields, and its call.
pub record Row (kind : FrameKind) (w : Widths) : Type 0 where
  pub digit : is_digit (character_of kind) ≡ true
  pub value : value_of (character_of kind) ≡ number_of_kind kind
  pub end_most : end_of w ≤ longest_frame
  pub told : (size : ℕ) (line : List ℕ)
      → framed layout size (number_of_kind kind) line ≡ cond (eqb size (end_of w)) (Some (called_in kind w line)) None

row_by : (kind : FrameKind) → Row kind (widths_by kind)
unfolding is_digit
row_by Opening = search rules depth 30
row_by Reading = search rules depth 30
row_by Missed = search rules depth 30
row_by Absent = search rules depth 30
row_by Exchange = search rules depth 30
row_by Disconnection = search rules depth 30
row_by Reconnection = search rules depth 30
row_by Cancellation = search rules depth 30
row_by Payment = search rules depth 30
row_by StoppedCancellation = search rules depth 30

-- What is read as a call has digits only.
pub call_digits : (line : List ℕ) {call : Call} → parsed line ≡ Some call → every is_digit line ≡ true
call_digits line e = by_test (every is_digit line) (λ d. d) (λ d. absurd (let none = parsed_others line d in cc))

-- Of a line that begins with 0, the kind is its second character's.
second_kind : (line : List ℕ) (char : ℕ) → 2 ≤ length line → get_or line 0 0 ≡ 48 → get_or line 1 0 ≡ char → is_digit char ≡ true
    → kind_of line ≡ value_of char
second_kind line char two z k d = kind_is line two ∙ rw (z, k) (zero-add (value_of char))

two_digits : (char : ℕ) → is_digit char ≡ true → every is_digit (48 ∷ char ∷ []) ≡ true
unfolding is_digit
two_digits char d = rw d

-- A frame has more than a kind's two characters.
six_long : (line : List ℕ) {call : Call} → parsed line ≡ Some call → 6 ≤ length line
six_long line e =
    by_test (leb 6 (length line)) (leb-true 6 (length line))
    (λ short. absurd (let none = too_short line (leb-false 6 (length line) short) in cc))

-- A frame that begins some bytes, as a line.
module _ {bytes : List ℕ} {call : Call} {width : ℕ} (b : Begins bytes call width) where
  abbrev front : List ℕ
  front = take width bytes

  front_long : length front ≡ width
  front_long = length-take-le width bytes (omega (arith, b.room, b.within))

  front_six : 6 ≤ width
  front_six = omega (arith, front_long, six_long front b.frame)

  front_at : (i : ℕ) → i < 6 → get_or front i 0 ≡ get_or bytes i 0
  front_at i h = get_or-take width bytes i 0 (omega (arith, front_six))

  front_digits : every is_digit front ≡ true
  front_digits = call_digits front b.frame

pub digit_no_end : (c : ℕ) → is_digit c ≡ true → c ≡ line_feed → ⊥
unfolding is_digit
digit_no_end c e l = true≢false (sym (rw l at e))

-- One frame at most begins them: no LF stands in it.
module _ {bytes : List ℕ} {call : Call} {width : ℕ} (b : Begins bytes call width) where
  none_longer : {other : Call} {long : ℕ} → Begins bytes other long → width < long → ⊥
  none_longer {long = long} l h =
      let digit =
      every_in_front (λ c. is_digit c ≡ true) bytes long width 0 h (omega (arith, b.room, b.within))
      (every_true is_digit (take long bytes) (front_digits l)) in
      digit_no_end (get_or bytes width 0) digit b.ends

pub begins_once : {bytes : List ℕ} {a b : Call} {m n : ℕ} → Begins bytes a m → Begins bytes b n → m ≡ n
begins_once {m = m} {n} a b =
    by_order m n (λ less. absurd (none_longer a b less))
    (λ most. by_order n m (λ less. absurd (none_longer b a less)) (λ least. omega arith))

-- No frame begins with another character than 0,
pub other_beginning : {bytes : List ℕ} → (get_or bytes 0 0 ≡ 48 → ⊥) → FrameAt bytes None
other_beginning {bytes} n call width b =
    let text = take width bytes in
    let none = other_first text (omega (arith, front_long b, front_six b)) (λ e. n (sym (front_at b 0 (omega arith)) ∙ e)) in
    absurd (let found = b.frame in cc)

-- or with a character that no kind has.
pub other_kind : {bytes : List ℕ} → get_or bytes 0 0 ≡ 48 → ((kind : FrameKind) → get_or bytes 1 0 ≡ character_of kind → ⊥)
    → FrameAt bytes None
other_kind {bytes} z n call width b =
    let text = take width bytes in
    let two : 2 ≤ length text = omega (arith, front_long b, front_six b) in
    let character = get_or text 1 0 in
    let digit = (digits_begin text two (front_digits b)).1.0 in
    let kind_is = second_kind text character two (front_at b 0 (omega arith) ∙ z) refl digit ∙ sym (value_digit character digit) in
    let none =
    parsed_digits text (front_digits b) ∙ frame_at text width (value_or character) (front_long b) kind_is ∙
    unknown_kind character width text (λ kind e. n kind (sym (front_at b 1 (omega arith)) ∙ e)) in
    absurd (let found = b.frame in cc)

-- Bytes that begin with a kind's two characters.
module _ {bytes : List ℕ} {kind : FrameKind} {first second third short : ℕ} (k : BeginsKind bytes kind first second third short) where
  abbrev w : Widths
  w = widths first second third short

  abbrev end : ℕ
  end = end_of w

  pub row : Row kind w
  row = subst (Row kind) k.widths_are (row_by kind)

  abbrev line : List ℕ
  line = take end bytes

  line_long : length line ≡ end
  line_long = length-take-le end bytes (omega (arith, k.room, row.end_most))

  -- A frame that begins them has the size of its kind.
  size_is : {call : Call} {width : ℕ} → Begins bytes call width → width ≡ end
  size_is {width = width} b =
      let text = take width bytes in
      let two : 2 ≤ length text = omega (arith, front_long b, front_six b) in
      let kind_is = second_kind text (character_of kind) two (front_at b 0 (omega arith) ∙ k.zero)
      (front_at b 1 (omega arith) ∙ k.second_character) row.digit ∙ row.value in
      let told = sym (parsed_digits text (front_digits b) ∙ frame_at text width (number_of_kind kind) (front_long b) kind_is ∙ row.told width text)
      ∙ b.frame in
      eqb-true width end (cond_some (eqb width end) (called_in kind w text) _ told).0

  line_digits : {call : Call} {width : ℕ} → Begins bytes call width → every is_digit line ≡ true
  line_digits b = rw (size_is b) at (front_digits b)

  -- No frame begins them where no LF stands behind that size,
  pub no_end : {last : ℕ} → (last ≡ line_feed → ⊥) → last ≡ get_or bytes end 0 → FrameAt bytes None
  no_end n last_is call width b = n (last_is ∙ rw (size_is b) at b.ends)

  -- or where a part of it is no number.
  pub no_part : (from to : ℕ) → from ≤ to → to ≤ end → None ≡ number_in (between from to bytes) → FrameAt bytes None
  no_part from to h l none call width b =
      let part = between from to bytes in
      let digits : every is_digit part ≡ true =
      rw (part_of from (to - from) end bytes (omega arith)) at (digits_part from (to - from) line (line_digits b)) in
      absurd (let is : number_in part ≡ Some (number_of part) = rw digits refl in cc)

  -- Else they begin with the frame of the numbers.
  record Reads (from to n : ℕ) : Type 0 where
    is : Some n ≡ number_in (between from to bytes)

  module _ {from to n : ℕ} (r : Reads from to n) where
    digits_on : from ≤ to → every is_digit (take from bytes) ≡ true → every is_digit (take to bytes) ≡ true
    digits_on h e =
        let part = between from to bytes in
        let all : from + (to - from) ≡ to = omega arith in
        let more = every_behind is_digit (take from bytes) part e (cond_some _ _ _ (sym r.is)).0 in
        rw (← take-add from (to - from) bytes, all) at more

    number_is : (m : ℕ) → from + m ≡ to → to ≤ end → number_at line from m ≡ n
    number_is m h l =
        let same : to - from ≡ m = omega arith in
        rw (part_of from m end bytes (omega arith)) (rw same at (cond_some _ _ _ (sym r.is)).1)

  pub numbers_begin : {last day a b c d : ℕ} → last ≡ line_feed → last ≡ get_or bytes end 0 → Some day ≡ number_in (between 2 6 bytes)
      → Some a ≡ number_in (between 6 (second_at w) bytes) → Some b ≡ number_in (between (second_at w) (third_at w) bytes)
      → Some c ≡ number_in (between (third_at w) (short_at w) bytes) → Some d ≡ number_in (between (short_at w) end bytes)
      → Begins bytes (call_by kind day a b c d) end
  numbers_begin {last} {day} {a} {b} {c} {d} ends last_is day_is a_is b_is c_is d_is =
      let day_read : Reads 2 6 day = record { is = day_is } in
      let first_read : Reads 6 (second_at w) a = record { is = a_is } in
      let second_read : Reads (second_at w) (third_at w) b = record { is = b_is } in
      let third_read : Reads (third_at w) (short_at w) c = record { is = c_is } in
      let short_read : Reads (short_at w) end d = record { is = d_is } in
      let two : every is_digit (take 2 bytes) ≡ true =
      rw (begins_with bytes (omega (arith, k.room)), k.zero, k.second_character) (two_digits (character_of kind) row.digit) in
      let six = digits_on day_read (omega arith) two in
      let one = digits_on first_read (omega arith) six in
      let more = digits_on second_read (omega arith) one in
      let three = digits_on third_read (omega arith) more in
      let all = digits_on short_read (omega arith) three in
      let day_number = number_is day_read 4 (omega arith) (omega arith) in
      let first_number = number_is first_read first (omega arith) (omega arith) in
      let second_number = number_is second_read second (omega arith) (omega arith) in
      let third_number = number_is third_read third (omega arith) (omega arith) in
      let short_number = number_is short_read short (omega arith) (omega arith) in
      let kind_is =
      second_kind line (character_of kind) (omega (arith, line_long)) (get_or-take end bytes 0 0 (omega arith) ∙ k.zero)
      (get_or-take end bytes 1 0 (omega arith) ∙ k.second_character) row.digit ∙ row.value in
      record {
        room = k.room;
        within = row.end_most;
        ends = sym last_is ∙ ends;
        frame =
            parsed_digits line all ∙ frame_at line end (number_of_kind kind) line_long kind_is ∙ row.told end line ∙
            ap (λ t. cond t (Some (called_in kind w line)) None) (eq-eqb end end refl) ∙
            (λ i. Some (call_by kind (day_number i) (first_number i) (second_number i) (third_number i) (short_number i)));
      }
