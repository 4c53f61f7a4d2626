-- Laws of the file `closed`. Assumes nothing.
use Rattle.std.specs.Prelude.{Some, None}
use Rattle.std.proofs.lemmas.Option.{cond_some}
use lib.Seq.{drop_at}
use Rattle.common.proofs.Words.{cond, ◌&&◌, min, take_at, take-take, get_or-take, ◌≡◌, refl, sym, ap, ◌∙◌, true, false, false≢true, List, [], ◌∷◌, ◌++◌}
use Rattle.common.proofs.Words.{append-nil, map, map-append, ℕ, suc, ◌+◌, ◌*◌, ◌≤◌, ◌<◌, arith, eqb, length, get_or}
use Rattle.common.proofs.Words.{set, take, drop, length-append, length-map, length-take}
use Rattle.common.proofs.Words.{length-take-le, append_snoc, take_all, drop-cons, drop_of_length-le, eqb-true, eq-eqb, ne_eqb}
use lib.ListN.{take-append-drop}
use Rattle.lists.specs.{Sum.total, Every.every, Pad.pad}
use Rattle.lists.proofs.{Every.every_behind, Every.every_fails, Pad.pad_store, Pad.take_pad}
use Rattle.common.proofs.{Cases.by_test, Cases.by_order, Tests.and_left, Tests.and_right}
use Rattle.duedays.specs.{Limits.most_listed, DueDays.list_allowed}
use Rattle.duedays.proofs.Lists.{allowed}
use Rattle.frames.specs.Digits.{is_digit, line_feed, number_of}
use Rattle.text.specs.Lines.{lines_from, lines_of}
use Rattle.text.proofs.Pieces.{last_line_lem}
use Rattle.closedfile.specs.ClosedFile.{is_day_line, days_in, is_formed, broken_list, list_in, held, longest_file}
use Rattle.closedfile.specs.Reading.{day_in, DayLine}

-- A digit ends no line.
digit_no_end : (c : ℕ) → is_digit c ≡ true → eqb c line_feed ≡ false
unfolding is_digit
digit_no_end c e = ne_eqb c line_feed (λ l. absurd (false≢true (rw l at e)))

-- Digits go to the line that they stand in.
digits_kept : (part digits rest : List ℕ) → every is_digit digits ≡ true
    → lines_from part (digits ++ rest) ≡ lines_from (part ++ digits) rest
unfolding lines_from
digits_kept part [] rest e = rw (append-nil part)
digits_kept part (c ∷ cs) rest e =
    let this = digit_no_end c (and_left (is_digit c) (every is_digit cs) e) in
    rw (this, digits_kept (part ++ (c ∷ [])) cs rest (and_right (is_digit c) (every is_digit cs) e), append_snoc part c cs)

-- The first line of what is to be read, behind a part that came: the characters up to LF or to the end.
record First (part xs : List ℕ) : Type 0 where
  count : ℕ
  later : List (List ℕ)
  is : lines_from part xs ≡ (part ++ take count xs) ∷ later
  within : count ≤ length xs
  ends : get_or xs count line_feed ≡ line_feed

first : (part xs : List ℕ) → 1 ≤ length part + length xs → First part xs
unfolding lines_from
first [] [] h = absurd (omega arith)
first (c ∷ cs) [] h = record { count = 0; later = []; is = rw (append-nil cs); within = omega arith; ends = refl }
first part (c ∷ cs) h =
    let more = first (part ++ (c ∷ [])) cs (rw (length-append part (c ∷ [])) (omega arith)) in
    by_test (eqb c line_feed)
    (λ e.
    record {
      count = 0;
      later = lines_from [] cs;
      is = rw (e, append-nil part);
      within = omega arith;
      ends = eqb-true c line_feed e;
    })
    (λ e.
    record {
      count = suc more.count;
      later = more.later;
      is = rw (e, more.is, append_snoc part c (take more.count cs));
      within = omega (arith, more.within);
      ends = more.ends;
    })

-- Four digits, and then LF or the end.
record Begins (xs : List ℕ) : Type 0 where
  pub digits : every is_digit (take 4 xs) ≡ true
  pub long : 4 ≤ length xs
  pub ends : get_or xs 4 line_feed ≡ line_feed

-- are a line of the form;
day_line : (xs : List ℕ) → Begins xs → DayLine xs (number_of (take 4 xs))
unfolding lines_from
day_line xs b =
    let four = length-take-le 4 xs b.long in
    let kept = ap lines_of (sym (take-append-drop 4 xs)) ∙ digits_kept [] (take 4 xs) (drop 4 xs) b.digits in
    record {
      is_day = rw (eq-eqb (length (take 4 xs)) 4 four) b.digits;
      day_is = refl;
      splits =
          kept ∙
          by_order 4 (length xs) (λ more. rw (drop-cons xs 4 line_feed more, b.ends))
          (λ none.
          let five : length xs ≤ 5 = omega arith in
          rw (drop_of_length-le xs none, drop_of_length-le xs five) (last_line_lem (take 4 xs) (λ z. omega (arith, four))));
    }

-- and where they do not stand, the first line is not of the form.
no_day_line : (xs : List ℕ) → 1 ≤ length xs → (Begins xs → ⊥) → every is_day_line (lines_of xs) ≡ false
no_day_line xs some other =
    let f = first [] xs (omega arith) in
    let line = take f.count xs in
    by_test (is_day_line line)
    (λ e.
    let four : length line ≡ 4 = eqb-true (length line) 4 (and_left (eqb (length line) 4) (every is_digit line) e) in
    let count_is : f.count ≡ 4 = sym (length-take-le f.count xs f.within) ∙ four in
    absurd
    (other
    (record {
      digits = rw count_is at (and_right (eqb (length line) 4) (every is_digit line) e);
      long = rw count_is at f.within;
      ends = rw count_is at f.ends;
    })))
    (λ e. rw (f.is, e))

begins_day : (xs : List ℕ) → Begins xs → day_in xs ≡ Some (number_of (take 4 xs))
begins_day xs b = rw (eq-eqb (length (take 4 xs)) 4 (length-take-le 4 xs b.long), b.digits, eq-eqb (get_or xs 4 line_feed) line_feed b.ends) refl

day_begins : (xs : List ℕ) {day : ℕ} → day_in xs ≡ Some day → DayLine xs day
day_begins xs {day} e =
    let four = take 4 xs in
    let found = cond_some (is_day_line four && eqb (get_or xs 4 line_feed) line_feed) (number_of four) day e in
    let is_day = and_left (is_day_line four) (eqb (get_or xs 4 line_feed) line_feed) found.0 in
    let long = eqb-true (length four) 4 (and_left (eqb (length four) 4) (every is_digit four) is_day) in
    rw (← found.1)
    (day_line xs
    (record {
      digits = and_right (eqb (length four) 4) (every is_digit four) is_day;
      long = omega (arith, long, length-take 4 xs);
      ends = eqb-true (get_or xs 4 line_feed) line_feed (and_right (is_day_line four) (eqb (get_or xs 4 line_feed) line_feed) found.0);
    }))

-- What is to be read, cut behind five characters or at its end: the first part tells the day of the whole.
pub record Cut (xs line rest : List ℕ) : Type 0 where
  pub is : xs ≡ line ++ rest
  pub long : length line ≡ min 5 (length xs)
  pub some : 0 < length xs

pub cut_at : (xs line rest : List ℕ) {n : ℕ} → n ≡ 5 → (xs ≡ line ++ rest) × (length line ≡ min n (length xs)) × (0 < length xs) → Cut xs line rest
cut_at xs line rest five c = record { is = c.0; long = rw five at c.1; some = c.2 }

module _ {xs line rest : List ℕ} (c : Cut xs line rest) where
  front : line ≡ take (length line) xs
  front = rw c.is (sym (take_at line rest (length line) refl))

  back : rest ≡ drop (length line) xs
  back = rw c.is (sym (drop_at line rest (length line) refl))

  line_is : line ≡ take 5 xs
  line_is =
      by_order 5 (length xs) (λ more. let five : length line ≡ 5 = omega (arith, c.long) in front ∙ ap (λ n. take n xs) five)
      (λ less. front ∙ take_all (length line) xs (omega (arith, c.long)) ∙ sym (take_all 5 xs less))

  rest_is : rest ≡ drop 5 xs
  rest_is =
      by_order 5 (length xs) (λ more. let five : length line ≡ 5 = omega (arith, c.long) in back ∙ ap (λ n. drop n xs) five)
      (λ less. back ∙ drop_of_length-le xs (omega (arith, c.long)) ∙ sym (drop_of_length-le xs less))

  day_is : day_in line ≡ day_in xs
  day_is =
      let four = ap (take 4) line_is ∙ take-take 4 5 xs (omega arith) in
      let last = ap (λ l. get_or l 4 line_feed) line_is ∙ get_or-take 5 xs 4 line_feed (omega arith) in
      λ i. cond (is_day_line (four i) && eqb (last i) line_feed) (Some (number_of (four i))) None

-- The lines of a file hold all its characters, so a file of the form is no longer than 400 of them.
lines_cover : (part xs : List ℕ) → length part + length xs ≤ total (λ line. suc (length line)) (lines_from part xs)
unfolding lines_from
lines_cover [] [] = omega arith
lines_cover (c ∷ cs) [] = omega arith
lines_cover part (c ∷ cs) =
    by_test (eqb c line_feed) (λ e. rw e (omega (arith, lines_cover [] cs)))
    (λ e. rw e (omega (arith, length-append part (c ∷ []), lines_cover (part ++ (c ∷ [])) cs)))

day_lines_total : (lines : List (List ℕ)) → every is_day_line lines ≡ true → total (λ line. suc (length line)) lines ≡ 5 * length lines
day_lines_total [] e = refl
day_lines_total (line ∷ lines) e =
    let this = and_left (is_day_line line) (every is_day_line lines) e in
    let four = eqb-true (length line) 4 (and_left (eqb (length line) 4) (every is_digit line) this) in
    omega (arith, four, day_lines_total lines (and_right (is_day_line line) (every is_day_line lines) e))

formed_few : (file : List ℕ) → is_formed file ≡ true → length (lines_of file) ≤ most_listed
unfolding is_formed
formed_few file e =
    let few = (allowed (and_right (every is_day_line (lines_of file)) (list_allowed (days_in file)) e)).few in
    omega (arith, few, length-map (lines_of file) number_of)

formed_short : (file : List ℕ) → is_formed file ≡ true → length file ≤ longest_file
unfolding is_formed
formed_short file e =
    let all = day_lines_total (lines_of file) (and_left (every is_day_line (lines_of file)) (list_allowed (days_in file)) e) in
    omega (arith, lines_cover [] file, all, formed_few file e)

-- A file of the form, and one that is not.
pub formed : (file : List ℕ) → is_formed file ≡ true → list_in file ≡ days_in file
unfolding list_in
formed file e = rw e

pub not_formed : (file : List ℕ) → is_formed file ≡ false → list_in file ≡ broken_list
unfolding list_in
not_formed file e = rw e

too_long : (file : List ℕ) → longest_file < length file → list_in file ≡ broken_list
too_long file h =
    by_test (is_formed file) (λ e. absurd (omega (arith, formed_short file e))) (λ e. not_formed file e)

-- The first bytes of a file tell its list, however long it is.
pub first_bytes : (file : List ℕ) → list_in (take (longest_file + 1) file) ≡ list_in file
first_bytes file =
    by_order longest_file (length file)
    (λ long.
    too_long (take (longest_file + 1) file) (rw (length-take-le (longest_file + 1) file (omega arith)) (omega arith))
    ∙ sym (too_long file long))
    (λ short. rw (take_all (longest_file + 1) file (omega arith)))

none_left : (xs : List ℕ) → length xs ≡ 0 → xs ≡ []
none_left [] e = refl
none_left (x ∷ xs) e = absurd (omega (arith, e))

-- A file read up to a rest: the lines so far are of the form, and their days stand in an array.
pub record Reads (file rest : List ℕ) (count : ℕ) (days : List ℕ) : Type 0 where
  pub lines : List (List ℕ)
  pub are_days : every is_day_line lines ≡ true
  pub splits : lines_of file ≡ lines ++ lines_of rest
  pub count_is : length lines ≡ count
  pub days_are : days ≡ pad most_listed 0 (map number_of lines)

pub reads_start : {file ahead : List ℕ} → ahead ≡ file → Reads file ahead 0 (pad most_listed 0 [])
reads_start e = rw e (record { lines = []; are_days = refl; splits = refl; count_is = refl; days_are = refl })

module _ {file ahead : List ℕ} {count : ℕ} {days : List ℕ} (r : Reads file ahead count days) where
  -- one line more
  module _ {line rest : List ℕ} (cut : Cut ahead line rest) where
    pub reads_on : {day : ℕ} → count < most_listed → Some day ≡ day_in line → Reads file rest (count + 1) (set days count day)
    reads_on {day} room shows =
        let four = take 4 ahead in
        let next = day_begins ahead (sym (shows ∙ day_is cut)) in
        record {
          lines = r.lines ++ (four ∷ []);
          are_days = every_behind is_day_line r.lines (four ∷ []) r.are_days (rw next.is_day);
          splits = rw (r.splits, next.splits, rest_is cut, append_snoc r.lines four (lines_of (drop 5 ahead)));
          count_is = rw (length-append r.lines (four ∷ []), r.count_is);
          days_are =
              rw (r.days_are, next.day_is, map-append number_of r.lines (four ∷ []))
              (pad_store 0 most_listed count (map number_of r.lines) (number_of four) (length-map r.lines number_of ∙ r.count_is) room);
        }

    -- The next line is not of the form.
    pub reads_none : None ≡ day_in line → is_formed file ≡ false
    unfolding is_formed
    reads_none shows =
        let none = no_day_line ahead cut.some (λ b. absurd (let some = begins_day ahead b in let same = day_is cut in cc)) in
        rw (r.splits, every_fails is_day_line r.lines (lines_of ahead) none)

    -- There is a line more than the list can have.
    pub reads_many : count ≡ most_listed → is_formed file ≡ false
    reads_many full =
        let next = first [] ahead (omega (arith, cut.some)) in
        let all = ap length r.splits ∙ length-append r.lines (lines_of ahead) in
        by_test (is_formed file)
        (λ e. absurd (omega (arith, all, ap length next.is, r.count_is, formed_few file e))) (λ e. e)

  -- The file ended: it is of the form where the bounds let its days pass.
  module _ (end : length ahead ≡ 0) where
    all_read : lines_of file ≡ r.lines
    unfolding lines_from
    all_read = rw (r.splits, none_left ahead end, append-nil r.lines)

    pub days_stand : take count days ≡ days_in file
    days_stand =
        let many = length-map r.lines number_of ∙ r.count_is in
        rw (all_read, r.days_are, ← many) (take_pad 0 most_listed (map number_of r.lines))

    pub formed_is : is_formed file ≡ list_allowed (days_in file)
    unfolding is_formed
    formed_is = rw (all_read, r.are_days)

    pub held_is : record { count = count; days = days } ≡ held (days_in file)
    held_is = rw (all_read, r.days_are, length-map r.lines number_of, r.count_is)
