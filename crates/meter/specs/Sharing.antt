-- The volumes that a real closing makes final: articles 14(1), 14(4) and 14(5).
use Rattle.std.specs.Prelude.{◌≡◌, Bool, true, false, cond, not, List, [], ◌∷◌, ◌++◌, map, reverse, ℕ, ◌+◌, ◌-◌, ◌/◌, ◌≤◌}
use lib.{Dec.leb, ListN.length, ListN.take, ListN.drop}
use Rattle.lists.specs.{Pad.pad, Sum.total}
use Rattle.tariff.specs.Limits.{most_volume}
use Rattle.meter.specs.{Limits.most_misses, declared.Estimate.Estimate, declared.Estimates.Estimates, declared.Volumes.Volumes}
use Rattle.meter.specs.declared.Share.{Share}

-- n / k rounded up
abbrev pub ceiling : ℕ → ℕ → ℕ
ceiling n k = (n + (k - 1)) / k

-- The number of periods that share.
abbrev pub sharers : List Bool → ℕ
sharers = total (λ shares. cond shares 1 0)

-- Latest first, each period that shares takes what is left divided by the periods left, rounded up (14(5) for one, H for more). The others take 0.
abbrev pub shares : ℕ → List Bool → List ℕ
shares left [] = []
shares left (true ∷ periods) = ceiling left (sharers periods + 1) ∷ shares (left - ceiling left (sharers periods + 1)) periods
shares left (false ∷ periods) = 0 ∷ shares left periods

-- The 03 periods share, the 04 periods do not.
abbrev pub sharing : Estimate → Bool
sharing estimate = not estimate.absent

abbrev pub estimated : List Estimate → ℕ
estimated = total (λ estimate. estimate.volume)

-- 14(5): this period and the 03 periods share the pool. The result is oldest first, this period last.
unfoldable pub shared_pool : List Estimate → ℕ → List ℕ
shared_pool estimates pool = reverse (shares pool (true ∷ reverse (map sharing estimates)))

-- 14(4): the estimates stand and this period takes pool − sum of the estimates; if that is negative, the pool is shared.
unfoldable pub final_volumes : List Estimate → ℕ → List ℕ
final_volumes estimates pool =
    cond (leb (estimated estimates) pool) (map (λ estimate. estimate.volume) estimates ++ ((pool - estimated estimates) ∷ [])) (shared_pool estimates pool)

-- What a period's turn keeps to. A period that shares is among those left.
pub record Shareable (absent : Bool) (left periods : ℕ) : Type 0 where
  pub volume_within : left ≤ most_volume
  pub few : periods ≤ 7
  pub some_left : absent ≡ false → 1 ≤ periods

-- One period's turn: what it takes, what is left and how many periods are left to share it.
unfoldable pub share_taken : Bool → ℕ → ℕ → Share
share_taken absent left periods =
    cond absent
    (record { part = 0; left = left; periods = periods })
    (record { part = ceiling left periods; left = left - ceiling left periods; periods = periods - 1 })

-- What a place of the array without an estimate holds.
abbrev pub blank : Estimate
blank =
    record {
      absent = false;
      period = record { days = 0; closing_day = 0; fuel = record { lng = 0; propane = 0 } };
      volume = 0;
      charged = 0;
    }

-- The standing estimates as a list.
abbrev pub standing : Estimates → List Estimate
standing estimates = take estimates.count estimates.periods

-- Volumes as the array of an answer holds them.
abbrev pub volumes_of : List ℕ → Volumes
volumes_of volumes = record { count = length volumes; volumes = pad 7 0 volumes }

-- Volumes in a lent array, from its start.
abbrev pub filled_with : List ℕ → List ℕ → List ℕ
filled_with volumes before = volumes ++ drop (length volumes) before

abbrev pub AtMostSix : Estimates → Type 0
AtMostSix estimates = estimates.count ≤ most_misses
