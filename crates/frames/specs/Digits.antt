-- Numbers as text, in ASCII.
use Rattle.std.specs.Prelude.{Bool, cond, ◌&&◌, ◌||◌, List, [], ◌∷◌, ◌++◌, Option, Some, None, ℕ, zero, suc, ◌+◌, ◌-◌, ◌*◌, ◌/◌, ◌%◌}
use Rattle.lists.specs.Every.{every}
use lib.{Dec.leb, Dec.ltb, Seq.sets}

abbrev pub line_feed : ℕ
line_feed = 10

-- Lower-case hexadecimal: the characters 0 to 9 and a to f.
unfoldable pub is_digit : ℕ → Bool
is_digit c = (leb 48 c && leb c 57) || (leb 97 c && leb c 102)

abbrev pub value_of : ℕ → ℕ
value_of c = cond (leb c 57) (c - 48) (c - 87)

-- Read and checked at once: a digit's value, and 2 ^ 32 for any other character, so that no number of up to eight digits comes to it.
abbrev pub no_digit : ℕ
no_digit = 4294967296

unfoldable pub value_or : ℕ → ℕ
value_or c = cond (is_digit c) (value_of c) no_digit

-- What characters come to, digits or not, the most significant first.
abbrev pub read_from : ℕ → List ℕ → ℕ
read_from n [] = n
read_from n (c ∷ cs) = read_from (n * 16 + value_or c) cs

abbrev pub read_of : List ℕ → ℕ
read_of cs = read_from 0 cs

abbrev pub glyph : ℕ → ℕ
glyph d = cond (ltb d 10) (48 + d) (87 + d)

-- Big-endian: the number that hexadecimal digits show, the most significant first.
abbrev pub number_from : ℕ → List ℕ → ℕ
number_from n [] = n
number_from n (c ∷ cs) = number_from (n * 16 + value_of c) cs

abbrev pub number_of : List ℕ → ℕ
number_of cs = number_from 0 cs

-- The same, if all characters are digits.
abbrev pub number_in : List ℕ → Option ℕ
number_in cs = cond (every is_digit cs) (Some (number_of cs)) None

-- The last k digits of a number in a base, the most significant first.
unfoldable pub digits : ℕ → ℕ → ℕ → List ℕ
digits base zero n = []
digits base (suc k) n = digits base k (n / base) ++ (glyph (n % base) ∷ [])

-- A number of so many bytes in hexadecimal, two digits a byte.
abbrev pub bytes : ℕ → ℕ → List ℕ
bytes width n = digits 16 (2 * width) n

-- A text in which characters are written one after another from a place on.
abbrev pub written : List ℕ → ℕ → List ℕ → List ℕ
written text at xs = sets text at xs
