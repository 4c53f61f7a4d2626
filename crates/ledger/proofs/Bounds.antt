-- What a ledger holds is what stands on it. Assumes nothing.
use Rattle.common.proofs.Words.{◌≡◌, ◌≤◌, length, take, take_all}
use Rattle.lists.proofs.{Pad.take_pad}
use Rattle.ledger.specs.Posting.{Standing, standing, stored, blank}
use Rattle.ledger.specs.{Limits.capacity}

-- What is stored and fits is what stands.
pub standing_stored : (s : Standing) → length s.open_items ≤ capacity → standing (stored s) ≡ s
standing_stored s h =
    let all : take capacity s.open_items ≡ s.open_items = take_all capacity s.open_items h in
    rw all (λ i. record { open_items = take_pad blank capacity s.open_items i; credit = s.credit; held = s.held })
