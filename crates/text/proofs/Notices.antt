-- The length of notices. Assumes nothing.
use Rattle.common.proofs.Words.{◌≡◌, List, ℕ, ◌*◌, min, arith, length, take}
use Rattle.lists.proofs.{Pad.take_min, Joined.joined_taken}
use Rattle.ledger.specs.{Limits.capacity, declared.Item.Item}
use Rattle.answers.specs.Notices.{notice_line, notice_length}
use Rattle.answers.proofs.Writing.{length_notice}
use Rattle.text.specs.Output.{notices_of}

-- The notices of an array's items.
pub notices_length : (count : ℕ) (items : List Item) → length items ≡ capacity
    → length (notices_of (take count items)) ≡ notice_length * min count capacity
notices_length count items l =
    rw (← take_min count capacity items l) (joined_taken notice_line notice_length length_notice items (min count capacity) (omega arith))
