-- Laws of the sharing rule, over any number of periods. Assumes nothing.
use Rattle.common.proofs.Words.{◌≡◌, refl, ap, ◌∙◌, ⊎_elim, Bool, true, false, cond, List, [], ◌∷◌, ◌++◌, map, reverse, ℕ, suc, ◌+◌, ◌-◌, ◌/◌, ◌%◌}
use Rattle.common.proofs.Words.{min, ◌*◌, ◌≤◌, ◌<◌, le_refl, suc-mul, eq-zero-or-pos, arith, leb, length, length-append, length-reverse}
use Rattle.common.proofs.Words.{length-map, leb-true}
use Rattle.common.proofs.Words.{add-one, take, drop, get_or, take-append_seam}
use lib.ListN.{get_or-append}
use native.Mathlib.Nat.{div-lt_iff_lt-mul, le-div_iff_mul-le, le-mul_of_pos_right}
use Rattle.std.proofs.lemmas.Grind.{div_ceil_times}
use Rattle.lists.specs.Sum.{sum}
use Rattle.lists.proofs.Sum.{total_append, total_reverse, total_map, total_at_most}
use Rattle.meter.specs.Sharing.{ceiling, sharers, shares, sharing, estimated, shared_pool, final_volumes, filled_with}
use Rattle.meter.specs.declared.Estimate.{Estimate}

-- Each part is at most what is left.
pub part_at_most : (left k : ℕ) → 1 ≤ k → ceiling left k ≤ left
part_at_most left k h = omega (arith, (div-lt_iff_lt-mul {k = k} h).1 bound)
  where
    bound : left + (k - 1) < suc left * k
    bound = omega (arith, suc-mul left k, le-mul_of_pos_right left h)

-- The library's division that rounds up.
pub ceiling_is_div_ceil : (left k : ℕ) → 1 ≤ k → (left + (k - 1)) / k ≡ left / k + min 1 (left % k)
ceiling_is_div_ceil left k h =
    let q : ℕ = left / k + min 1 (left % k) in
    let bounds : (left ≤ q * k) × (q * k < left + k) = div_ceil_times left k h in
    let below : (left + (k - 1)) / k < suc q = (div-lt_iff_lt-mul {k = k} h).1 (omega (arith, suc-mul q k, bounds)) in
    let above : q ≤ (left + (k - 1)) / k = (le-div_iff_mul-le {k = k} h).1 (omega (arith, bounds)) in
    omega arith

-- The last period that shares takes all that is left.
pub last_part : (left : ℕ) → ceiling left 1 ≡ left
last_part left = omega arith

-- A period counts for at most one of those that share.
pub one_most : (shares : Bool) → cond shares 1 0 ≤ 1
one_most true = le_refl 1
one_most false = omega arith

pub sharers_at_most : (periods : List Bool) → sharers periods ≤ length periods
sharers_at_most periods = omega (arith, total_at_most (λ shares. cond shares 1 0) 1 one_most periods)

pub sharers_standing : (standing : List Estimate) → sharers (map sharing standing) ≤ length standing
sharers_standing standing = omega (arith, sharers_at_most (map sharing standing), length-map standing sharing)

none_left : (periods : List Bool) (left : ℕ) → sharers periods ≡ 0 → sum (shares left periods) ≡ 0
none_left [] left e = refl
none_left (true ∷ periods) left e = omega arith
none_left (false ∷ periods) left e = omega (arith, none_left periods left (omega arith))

-- The shares add up to the pool.
pub shares_sum : (periods : List Bool) (left : ℕ) → 1 ≤ sharers periods → sum (shares left periods) ≡ left
shares_sum [] left h = omega arith
shares_sum (true ∷ periods) left h =
    ⊎_elim last (λ (l : 1 ≤ sharers periods). more (shares_sum periods (left - part) l)) (eq-zero-or-pos (sharers periods))
  where
    part : ℕ
    part = ceiling left (sharers periods + 1)

    last : sharers periods ≡ 0 → part + sum (shares (left - part) periods) ≡ left
    last e = omega (arith, ap (λ k. ceiling left (k + 1)) e, last_part left, none_left periods (left - part) e)

    more : sum (shares (left - part) periods) ≡ left - part → part + sum (shares (left - part) periods) ≡ left
    more ih = omega (arith, part_at_most left (sharers periods + 1) (omega arith))
shares_sum (false ∷ periods) left h = omega (arith, shares_sum periods left (omega arith))

pub shares_length : (periods : List Bool) (left : ℕ) → length (shares left periods) ≡ length periods
shares_length [] left = refl
shares_length (true ∷ periods) left = ap suc (shares_length periods (left - ceiling left (sharers periods + 1)))
shares_length (false ∷ periods) left = ap suc (shares_length periods left)

-- what holds of one of two lists by a test
either : (P : List ℕ → Type 0) (test : Bool) {xs ys : List ℕ} → (test ≡ true → P xs) → P ys → P (cond test xs ys)
either P true passed failed = passed refl
either P false passed failed = failed

module _ (estimates : List Estimate) (pool : ℕ) where
  abbrev volumes : List ℕ
  volumes = map (λ estimate. estimate.volume) estimates

  abbrev rest : List ℕ
  rest = (pool - estimated estimates) ∷ []

  abbrev marks : List Bool
  marks = true ∷ reverse (map sharing estimates)

  shared_sum : sum (shared_pool estimates pool) ≡ pool
  unfolding shared_pool
  shared_sum = rw (total_reverse (λ n. n) (shares pool marks)) (shares_sum marks pool (omega arith))

  -- A real closing makes final exactly the pool,
  pub final_sum : sum (final_volumes estimates pool) ≡ pool
  unfolding final_volumes
  final_sum = either (λ final. sum final ≡ pool) (leb (estimated estimates) pool) stand shared_sum
    where
      stand : leb (estimated estimates) pool ≡ true → sum (volumes ++ rest) ≡ pool
      stand e =
          rw (total_append (λ n. n) volumes rest, total_map (λ n. n) (λ estimate. estimate.volume) estimates)
          (omega (arith, leb-true (estimated estimates) pool e))

  pub shared_length : length (shared_pool estimates pool) ≡ suc (length estimates)
  unfolding shared_pool
  shared_length =
      length-reverse (shares pool marks) ∙ shares_length marks pool ∙
      ap suc (length-reverse (map sharing estimates) ∙ length-map estimates sharing)

  -- and a volume for each estimate and one for this period.
  pub final_length : length (final_volumes estimates pool) ≡ suc (length estimates)
  unfolding final_volumes
  final_length = either (λ final. length final ≡ suc (length estimates)) (leb (estimated estimates) pool) stand shared_length
    where
      stand : leb (estimated estimates) pool ≡ true → length (volumes ++ rest) ≡ suc (length estimates)
      stand _ = rw (length-append volumes rest, length-map estimates (λ estimate. estimate.volume)) (omega arith)

  -- In the array that they are written into they are the front, and this period's is behind those of the estimates.
  pub final_front : (lent : List ℕ) → take (length estimates + 1) (filled_with (final_volumes estimates pool) lent) ≡ final_volumes estimates pool
  final_front lent =
      rw (add-one (length estimates), ← final_length)
      (take-append_seam (final_volumes estimates pool) (drop (length (final_volumes estimates pool)) lent))

  pub final_last : (lent : List ℕ)
      → get_or (filled_with (final_volumes estimates pool) lent) (length estimates) 0
      ≡ get_or (final_volumes estimates pool) (length (final_volumes estimates pool) - 1) 0
  final_last lent =
      let final = final_volumes estimates pool in
      let last : length final - 1 ≡ length estimates = omega (arith, final_length) in
      rw last (get_or-append final (drop (length final) lent) 0 (length estimates) (omega (arith, final_length)))
