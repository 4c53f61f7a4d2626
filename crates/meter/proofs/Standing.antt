-- The estimates that stand, in the library's words: what was billed on them, and how many of them share. Assumes nothing.
use Rattle.common.proofs.Words.{◌≡◌, refl, List, map, cond}
use Rattle.std.specs.List.{sum_by, count_by}
use Rattle.std.proofs.lemmas.List.Recursion.{is_sum_by}
use Rattle.meter.specs.Sharing.{estimated, sharers, sharing}
use Rattle.meter.specs.declared.Estimate.{Estimate}

pub estimated_is_sum : (standing : List Estimate) → estimated standing ≡ sum_by (λ (estimate : Estimate). estimate.volume) standing
estimated_is_sum = is_sum_by estimated (λ (estimate : Estimate). estimate.volume) refl (λ _ _. refl)

pub sharers_are_counted : (standing : List Estimate) → sharers (map sharing standing) ≡ count_by sharing standing
sharers_are_counted standing =
    is_sum_by (λ estimates. sharers (map sharing estimates)) (λ estimate. cond (sharing estimate) 1 0) refl (λ _ _. refl) standing
