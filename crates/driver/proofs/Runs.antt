-- An input that is read and printed piece by piece is read and printed as one. Assumes nothing.
use Rattle.common.proofs.Words.{◌≡◌, refl, sym, ap, subst, ◌∙◌, Bool, true, false, List, [], ◌++◌, append_assoc, append-nil, ℕ, ◌+◌, ◌≤◌}
use Rattle.common.proofs.Words.{arith, length, take, drop, take_all, take-append_seam}
use Rattle.common.proofs.Words.{ap₂, take-add, length-take-le, length-drop}
use lib.Seq.{sets-eq, take-append-le}
use borrow.Rule.Slice.PartMut.{put_mid, mid_of, post_of}
use Rattle.std.proofs.Common.{drop_at, take_at}
use Rattle.std.specs.Prelude.{Option, None, Some, IfSome}
use Rattle.std.specs.Io.KnownBytes.{Appends, Consumes, IsAtEnd}
use Rattle.std.proofs.KnownBytes.{Appends-nil, Appends-trans, Consumes-nil, Consumes-trans, Consumes-whole}
use Rattle.answers.specs.Answers.{longest_answer}
use Rattle.lines.specs.Feeding.{fresh, Feeding, feeding, finishing}
use Rattle.lines.specs.{declared.State.State, declared.Fed.Fed}
use Rattle.text.specs.{Output.bill, Output.answers_of, Pieces.lines_in, Pieces.made, Pieces.Follows, Pieces.Behind}
use Rattle.text.proofs.{Pieces.stands_on, Pieces.made_is, Pieces.stands_end, Pieces.follows_start, Working.Lent, Working.count_is}
use Rattle.closedfile.specs.{declared.ClosedDays.ClosedDays, ClosedFile.longest_file, ClosedFile.list_in, ClosedFile.held}
use Rattle.closedfile.proofs.ClosedFile.{first_bytes}
use Rattle.driver.specs.Runs.{printed, Prints}

-- Where feeding an input stands: what was read of it, the state that follows that, and what it makes is printed.
pub record Reaches (holidays : List ℕ) (is_printing : Bool) (unread rest before after : Option (List ℕ)) (s : State) : Type 0 where
  pub seen : List ℕ
  pub follows : Follows holidays seen s
  pub read : Consumes unread rest seen
  pub prints : Prints is_printing [] (made holidays seen) before after

-- Where nothing was seen, nothing is made.
pub made_none : (holidays : List ℕ) → made holidays [] ≡ []
unfolding made lines_in answers_of
made_none holidays = refl

-- What was printed and what is printed behind it.
printed_on : (is_printing : Bool) (xs ys : List ℕ) → printed is_printing xs ++ printed is_printing ys ≡ printed is_printing (xs ++ ys)
printed_on true xs ys = refl
printed_on false xs ys = refl

printed_none : (is_printing : Bool) → printed is_printing [] ≡ []
printed_none true = refl
printed_none false = refl

module _ {is_printing : Bool} where
  pub prints_none : (output : List ℕ) (held : Option (List ℕ)) → Prints is_printing output output held held
  prints_none output held =
      record { more = []; grown_is = sym (append-nil output); appended = rw (printed_none is_printing) (Appends-nil held) }

  pub prints_on : {one two three : List ℕ} {a b c : Option (List ℕ)} → Prints is_printing one two a b → Prints is_printing two three b c
      → Prints is_printing one three a c
  prints_on {one} {two} {three} {a} {b} {c} p q =
      record {
        more = p.more ++ q.more;
        grown_is = q.grown_is ∙ ap (λ xs. xs ++ q.more) p.grown_is ∙ append_assoc one p.more q.more;
        appended = rw (← printed_on is_printing p.more q.more) (Appends-trans a b c _ _ p.appended q.appended);
      }

  -- Before anything is read.
  pub reaches_start : (holidays : List ℕ) (unread before : Option (List ℕ)) → Reaches holidays is_printing unread unread before before fresh
  reaches_start holidays unread before =
      record {
        seen = [];
        follows = follows_start holidays;
        read = Consumes-nil unread;
        prints = rw (made_none holidays) (prints_none [] before);
      }

  module _ {holidays : List ℕ} {unread rest before after : Option (List ℕ)} {s : State}
      (r : Reaches holidays is_printing unread rest before after s) where
    abbrev pub behind_of : Behind holidays s
    behind_of = record { seen = r.seen; follows = r.follows }

    -- A block more.
    pub reaches_on : (block : List ℕ) {rest' after' : Option (List ℕ)} {s' : State} → Consumes rest rest' block
        → Follows holidays (r.seen ++ block) s'
        → Prints is_printing (made holidays r.seen) (made holidays (r.seen ++ block)) after after'
        → Reaches holidays is_printing unread rest' before after' s'
    reaches_on block read follows prints =
        record {
          seen = _;
          follows = follows;
          read = Consumes-trans unread rest _ r.seen block r.read read;
          prints = prints_on r.prints prints;
        }

    -- At the end of a reader, what was seen is all that it had.
    pub all_seen : (P : List ℕ → Type 0) (rest' : Option (List ℕ)) → Consumes rest rest' [] → IsAtEnd rest' → P r.seen → IfSome unread P
    all_seen P rest' none end p =
        Consumes-whole unread rest' r.seen P
        (subst (Consumes unread rest') (append-nil r.seen) (Consumes-trans unread rest rest' r.seen [] r.read none)) end p

  -- What grew from nothing was printed whole.
  pub prints_all : {output : List ℕ} {a b : Option (List ℕ)} → Prints is_printing [] output a b → Appends a b (printed is_printing output)
  prints_all p = rw p.grown_is p.appended

  -- A piece fed, and the end of the input.
  module _ {holidays seen : List ℕ} {s : State} {a b : Option (List ℕ)} (w : Follows holidays seen s) where
    pub piece_prints : (room : ℕ) (bytes : List ℕ) → let f = feeding holidays room s bytes in
        Appends a b (printed is_printing f.output)
        → Prints is_printing (made holidays seen) (made holidays (seen ++ take f.taken bytes)) a b
    piece_prints room bytes e = record { more = _; grown_is = sym (made_is (stands_on w room bytes)); appended = e }

    pub end_prints : (room : ℕ) → longest_answer ≤ room → Appends a b (printed is_printing (finishing holidays room s).output)
        → Prints is_printing (made holidays seen) (bill holidays seen) a b
    end_prints room r e = record { more = _; grown_is = sym (stands_end w room r).out_is; appended = e }

-- The front of the space that was lent is what was made.
pub front_is : {r : Fed} {place space : List ℕ} {f : Feeding} → Lent r place space f → take r.written space ≡ f.output
front_is {place = place} {f = f} m =
    let out = f.output in
    let fits : 0 + length out ≤ length place = omega (arith, count_is m, m.most) in
    rw (count_is m, m.space_is, sets-eq out place 0 fits) (take-append_seam out (drop (0 + length out) place))

-- What was read of a file is its front: so many bytes, or all of them.
pub full_front : (a b : Option (List ℕ)) (bytes : List ℕ) (n : ℕ) → length bytes ≡ n → Consumes a b bytes
    → IfSome a (λ file. bytes ≡ take n file)
full_front None b bytes n e read = tt
full_front (Some file) None bytes n e read = absurd read
full_front (Some file) (Some rest) bytes n e read = rw (← e, read) (sym (take-append_seam bytes rest))

pub whole_front : (a b : Option (List ℕ)) (bytes : List ℕ) (n : ℕ) → length bytes ≤ n → Consumes a b bytes → IsAtEnd b
    → IfSome a (λ file. bytes ≡ take n file)
whole_front a b bytes n h read end = Consumes-whole a b bytes (λ file. bytes ≡ take n file) read end (sym (take_all n bytes h))

-- What a read puts behind what was read.
read_text : (at k n : ℕ) (xs ys : List ℕ) → at ≤ length xs → n ≤ length ys → take at xs ++ take n ys ≡ take (at + n) (put_mid at k xs ys)
read_text at k n xs ys h fits =
    let after = post_of at k xs in
    let all = put_mid at k xs ys in
    let front : take at all ≡ take at xs = take_at (take at xs) (ys ++ after) at (length-take-le at xs h) in
    let behind : drop at all ≡ ys ++ after = drop_at (take at xs) (ys ++ after) at (length-take-le at xs h) in
    let parts = take-add at n all ∙ ap₂ (λ one two. one ++ take n two) front behind in
    sym (parts ∙ ap (λ two. take at xs ++ two) (take-append-le n ys after fits))

pub read_on : (a b c : Option (List ℕ)) (at k n : ℕ) (xs ys : List ℕ) → at ≤ length xs → n ≤ length ys → Consumes a b (take at xs)
    → Consumes b c (take n ys) → Consumes a c (take (at + n) (put_mid at k xs ys))
read_on a b c at k n xs ys h fits read more = subst (Consumes a c) (read_text at k n xs ys h fits) (Consumes-trans a b c _ _ read more)

-- The part of an array that is lent for a read has room.
pub room_left : (at k : ℕ) (xs ys : List ℕ) → at + k ≡ length xs → 1 ≤ k → length ys ≡ length (mid_of at k xs) → 1 ≤ length ys
room_left at k xs ys e h same =
    let rest = length-drop at xs in
    let part : length (take k (drop at xs)) ≡ k = length-take-le k (drop at xs) (omega arith) in
    omega (arith, same, part)

-- The front of a file tells its list.
pub list_known : (a : Option (List ℕ)) (front : List ℕ) (list : ClosedDays) → list ≡ held (list_in front)
    → IfSome a (λ file. front ≡ take (longest_file + 1) file) → IfSome a (λ file. list ≡ held (list_in file))
list_known None front list e is = tt
list_known (Some file) front list e is = e ∙ ap (λ bytes. held (list_in bytes)) is ∙ ap held (first_bytes file)
