-- The words of the logic's libraries that the proofs of every crate use.
pub use Prim.Native.Nat.{◌%◌, ◌*◌, ◌+◌, ◌-◌, ◌/◌, ◌<◌, ◌^◌, ◌≤◌, min, suc, zero, ℕ}
pub use borrow.Author.Rules.{rules}
pub use borrow.Author.Tests.{eq-eqb, eqb-false, eqb-true, le-leb, le-ltb, leb-false, leb-true, lt-leb, lt-ltb, ltb-false, ltb-true, ne_eqb}
pub use borrow.Author.Tests.{not-false, not-true}
pub use lib.Dec.{T, eqb, leb, ltb}
pub use lib.IntN.{◌-ℤ◌, nat_abs, negsuc, pos, sub_ℕ, ℤ}
pub use lib.ListN.{drop, drop_of_length-le, get_or, length, length-append}
pub use lib.ListN.{length-drop, length-map, length-replicate, length-reverse, length-set}
pub use lib.ListN.{length-take, replicate, set, take}
pub use lib.Seq.{append_snoc, drop-cons, drop-drop, drop-length, drop-set-lt}
pub use lib.Seq.{get_or-drop, get_or-set_other, get_or-set_same, get_or-take, length-sets}
pub use lib.Seq.{length-take-le, take-add, take_all, take-append_seam, take_at, take-length, take-suc, take-suc-set, take-take}
pub use lib.Signed.{lt_z, non_neg}
pub use mathlib.Core.Bool.{Bool, ◌&&◌, ◌||◌, and-eq-true_iff, and-false, and-true, cond, false, false≢true, not, or-true, true, true≢false}
pub use mathlib.Core.List.{List, [], ◌++◌, ◌∷◌, append_assoc, append-nil, map, map-append, reverse, reverse-cons}
pub use mathlib.Core.Logic.{◌⊎◌, inl, inr, ⊎_elim}
pub use mathlib.Core.Path.{◌∙◌, ◌≡◌, ap, ap₂, refl, subst, sym}
pub use mir.Facts.{to_z-of_z, to_z_pos}
pub use mir.Syntax.{w32}
pub use mir.Val.{SFits, of_z, to_z}
pub use native.Mathlib.Nat.{add_assoc, add-suc, add-zero, eq-or-lt_of_le, eq-zero-or-pos, le_of_lt, le_of_suc-le-suc, le_refl, le_trans}
pub use native.Mathlib.Nat.{lt_of_lt_of_le, lt_of_not-le, mul-le-mul, not-suc-le-zero, pow-suc, sub_self, sub-zero, suc-add, suc-mul}
pub use native.Mathlib.Nat.{suc-ne-zero, zero-add}
pub use native.Mathlib.Numerals.{add-one}
pub use native.Mathlib.Omega.{arith}
