-- The net of a closing is what it adds to the price of all periods. Assumes nothing.
use Rattle.common.proofs.Words.{◌≡◌, refl, ap, ◌∙◌, Bool, true, false, cond, not, List, [], ◌∷◌, ◌++◌, map, reverse, ℕ, suc, ◌+◌, ◌-◌, ◌≤◌}
use Rattle.common.proofs.Words.{◌<◌, arith, leb, pos, negsuc, sub_ℕ, length, le-ltb, lt-ltb}
use Rattle.lists.specs.{Sum.total, Every.Every}
use Rattle.common.proofs.Cases.{by_test, by_order}
use Rattle.lists.proofs.{Sum.total_append, Sum.total_reverse, Every.every_append, Every.every_reverse}
use Rattle.meter.specs.Sharing.{sharing, estimated, shared_pool, final_volumes}
use Rattle.meter.specs.declared.Estimate.{Estimate}
use Rattle.meter.proofs.Absence.{ZeroAt, absent_zero}
use Rattle.closing.specs.Closing.{of_this_period, revised_prices, revised_charges, net_of}
use Rattle.audit.specs.Book.{Period, is_reading, is_absence, estimates, before_estimates, price_at, prices, as_estimate, revised, last_of}
use Rattle.audit.specs.Book.{above_zero, below_zero}

-- Differences.

sub_above : (p q : ℕ) → q ≤ p → sub_ℕ p q ≡ pos (p - q)
sub_above p q h = rw (le-ltb p q h)

sub_below : (p q : ℕ) → p < q → sub_ℕ p q ≡ negsuc (q - suc p)
sub_below p q h = rw (lt-ltb p q h)

pub difference : (p q : ℕ) → p + below_zero (sub_ℕ p q) ≡ q + above_zero (sub_ℕ p q)
difference p q = by_order p q (λ h. rw (sub_below p q h) (omega arith)) (λ h. rw (sub_above p q h) (omega arith))

-- the same on both sides does not change it
sub_same : (p q k : ℕ) → sub_ℕ (p + k) (q + k) ≡ sub_ℕ p q
sub_same p q k =
    by_order p q (λ h. rw (sub_below p q h, sub_below (p + k) (q + k) (omega arith)) (ap negsuc (omega arith)))
    (λ h. rw (sub_above p q h, sub_above (p + k) (q + k) (omega arith)) (ap pos (omega arith)))

pub sub_added : (p k : ℕ) → sub_ℕ (p + k) k ≡ pos p
sub_added p k = rw (sub_above (p + k) k (omega arith)) (ap pos (omega arith))

-- The last of the volumes.
pub last_is : (volumes : List ℕ) → last_of volumes ≡ of_this_period volumes
last_is [] = refl
last_is (v ∷ []) = refl
last_is (v ∷ w ∷ volumes) =
    let later : suc (suc (length volumes)) - 1 ≡ suc (suc (length volumes) - 1) = omega arith in
    last_is (w ∷ volumes) ∙ rw later

-- Periods split at the latest real closing.
prices_split : (periods : List Period) → prices periods ≡ prices (estimates periods) + prices (before_estimates periods)
prices_split [] = refl
prices_split (p ∷ periods) =
    by_test (is_reading p.call) (λ e. rw e (omega arith)) (λ e. rw e (omega (arith, prices_split periods)))

-- A period of known absence is billed 0.
abbrev Zero : Period → Type 0
Zero p = is_absence p.call ≡ true → p.volume ≡ 0

abbrev pub AbsentZero : List Period → Type 0
AbsentZero = Every Zero

absent_before : (periods : List Period) → AbsentZero periods → AbsentZero (before_estimates periods)
absent_before [] w = tt
absent_before (p ∷ periods) w = by_test (is_reading p.call) (λ e. rw e w) (λ e. rw e (absent_before periods w.1))

absent_estimates : (periods : List Period) → AbsentZero periods → AbsentZero (estimates periods)
absent_estimates [] w = tt
absent_estimates (p ∷ periods) w =
    by_test (is_reading p.call) (λ e. rw e tt) (λ e. rw e (w.0, absent_estimates periods w.1))

-- Estimates that stand are given the volumes they have.
revised_same : (periods : List Period) (rest : List ℕ)
    → revised periods (map (λ e. e.volume) (map as_estimate periods) ++ rest) ≡ periods
revised_same [] rest = refl
revised_same (p ∷ periods) rest = rw (revised_same periods rest)

-- Shares as the periods take them: one each, with more behind, and 0 for known absence.
abbrev Shared : List Period → List ℕ → Type 0
Shared [] volumes = Unit {0}
Shared (p ∷ periods) [] = ⊥
Shared (p ∷ periods) (v ∷ volumes) = (is_absence p.call ≡ true → v ≡ 0) × Shared periods volumes

shared_from : (periods : List Period) (marks : List Bool) (volumes : List ℕ)
    → ZeroAt (map sharing (map as_estimate periods) ++ marks) volumes → Shared periods volumes
shared_from [] marks volumes w = tt
shared_from (p ∷ periods) marks [] w = w
shared_from (p ∷ periods) marks (v ∷ volumes) w = ((λ absent. w.0 (ap not absent)), shared_from periods marks volumes w.1)

-- Known absence stays at 0.
revised_zeros : (periods : List Period) (volumes : List ℕ) → AbsentZero periods → Shared periods volumes
    → AbsentZero (revised periods volumes)
revised_zeros [] volumes z w = tt
revised_zeros (p ∷ periods) [] z w = absurd w
revised_zeros (p ∷ periods) (v ∷ volumes) z w = (w.0, revised_zeros periods volumes z.1 w.1)

-- the price of the periods of known absence
absent_prices : List Period → ℕ
absent_prices = total (λ p. cond (is_absence p.call) (price_at p) 0)

prices_revised : (periods : List Period) (volumes : List ℕ) → AbsentZero periods → Shared periods volumes
    → prices (revised periods volumes) ≡ revised_prices (map as_estimate periods) volumes + absent_prices periods
unfolding absent_prices
prices_revised [] volumes zeros w = refl
prices_revised (p ∷ periods) [] zeros w = absurd w
prices_revised (p ∷ periods) (v ∷ volumes) zeros w =
    let later = prices_revised periods volumes zeros.1 w.1 in
    by_test (is_absence p.call) (λ e. rw (e, w.0 e, zeros.0 e) (omega arith)) (λ e. rw e (omega arith))

prices_charged : (periods : List Period) → prices periods ≡ revised_charges (map as_estimate periods) + absent_prices periods
unfolding absent_prices
prices_charged [] = refl
prices_charged (p ∷ periods) =
    let later = prices_charged periods in
    by_test (is_absence p.call) (λ e. rw e (omega arith)) (λ e. rw e (omega arith))

-- The standing estimates, the oldest first.
abbrev oldest : List Period → List Period
oldest periods = reverse (estimates periods)

abbrev pub standing_of : List Period → List Estimate
standing_of periods = map as_estimate (oldest periods)

-- A real closing: the volumes that it gives, and the periods after it.
module _ (periods : List Period) (pool : ℕ) where
  abbrev pub given : List ℕ
  given = final_volumes (standing_of periods) pool

  abbrev again : List Period
  again = revised (oldest periods) given

  abbrev pub after : List Period
  after = reverse again ++ before_estimates periods

  abbrev earlier : ℕ
  earlier = prices (before_estimates periods)

  -- the pool covers what was estimated
  abbrev covers : Bool
  covers = leb (estimated (standing_of periods)) pool

  prices_oldest : prices periods ≡ prices (oldest periods) + earlier
  prices_oldest = omega (arith, prices_split periods, total_reverse price_at (estimates periods))

  prices_after : prices after ≡ prices again + earlier
  prices_after =
      omega (arith, total_append price_at (reverse again) (before_estimates periods), total_reverse price_at again)

  stand : covers ≡ true → again ≡ oldest periods
  unfolding final_volumes
  stand e = rw e (revised_same (oldest periods) ((pool - estimated (standing_of periods)) ∷ []))

  module _ (zeros : AbsentZero periods) where
    zeros_oldest : AbsentZero (oldest periods)
    zeros_oldest = every_reverse Zero (estimates periods) (absent_estimates periods zeros)

    shared_given : covers ≡ false → Shared (oldest periods) given
    unfolding final_volumes
    shared_given e =
        let standing = standing_of periods in
        rw e (shared_from (oldest periods) (true ∷ []) (shared_pool standing pool) (absent_zero standing pool))

    -- The net of a real closing is what it adds to the price of all periods.
    pub net_added_lem : (price : ℕ) → net_of (standing_of periods) pool given price ≡ sub_ℕ (price + prices after) (prices periods)
    unfolding net_of
    net_added_lem price =
        let now = revised_prices (standing_of periods) given in
        let then = revised_charges (standing_of periods) in
        let k = absent_prices (oldest periods) + earlier in
        by_test covers
        (λ e.
        let same : prices after ≡ prices periods = omega (arith, prices_after, ap prices (stand e), prices_oldest) in
        rw (e, same, sub_added price (prices periods)))
        (λ e.
        let new = prices_revised (oldest periods) given zeros_oldest (shared_given e) in
        let more : price + prices after ≡ price + now + k = omega (arith, prices_after, new) in
        let less : prices periods ≡ then + k = omega (arith, prices_oldest, prices_charged (oldest periods)) in
        rw (e, more, less, sub_same (price + now) then k))

    pub zeros_after : AbsentZero after
    zeros_after =
        every_append Zero (reverse again) (before_estimates periods) (every_reverse Zero again still) (absent_before periods zeros)
      where
        still : AbsentZero again
        still =
            by_test covers (λ e. rw (stand e) zeros_oldest)
            (λ e. revised_zeros (oldest periods) given zeros_oldest (shared_given e))
