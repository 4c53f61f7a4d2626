-- Items among the places of an array. Assumes nothing.
use Rattle.common.proofs.Words.{◌≡◌, ◌≤◌, List, ◌++◌, ℕ, ◌+◌, ◌-◌, sym, arith, length, take, drop, replicate}
use lib.{ListN.length-append, ListN.length-drop, Seq.take-append_seam}
use Rattle.lists.specs.Pad.{pad}
use Rattle.lists.proofs.Pad.{drop_replicate}

pub between : (front count : ℕ) → front + count - front ≡ count
between front count = omega arith

-- A list copied over the front of blanks.
pub padded : {A : Type 0} (size : ℕ) (xs : List A) {x blank : A} → x ≡ blank
    → xs ++ drop (length xs) (replicate size x) ≡ pad size blank xs
padded size xs {x} {blank} is = rw (is, drop_replicate blank (length xs) size)

-- What a list has in front of others.
pub in_front : {A : Type 0} (size : ℕ) (xs rest : List A) → length xs ≡ size → take size (xs ++ rest) ≡ xs
in_front size xs rest is = rw (sym is) (take-append_seam xs rest)

-- Others put in their place: no more and no fewer than there were.
pub put_in_front : {A : Type 0} (size : ℕ) (xs rest : List A) → length xs ≡ size → size ≤ length rest → length (xs ++ drop size rest) ≡ length rest
put_in_front size xs rest is most = rw (length-append xs (drop size rest), length-drop size rest) (omega (arith, is, most))
