-- There is room for the notices of every account, and what is printed of the room is those notices. Assumes nothing.
use Rattle.common.proofs.Words.{◌≡◌, List, ℕ, ◌+◌, ◌*◌, ◌≤◌, arith, length, take, drop, le-leb, take-append_seam}
use lib.Seq.{sets-eq}
use Rattle.ledger.specs.Limits.{capacity}
use Rattle.account.specs.declared.Account.{Account}
use Rattle.answers.specs.Notices.{notice_length}
use Rattle.text.specs.Output.{open_notices, fitted}
use Rattle.text.proofs.Notices.{notices_length}

pub within : (a : Account) → length a.ledger.items ≡ capacity → length (open_notices a) ≤ capacity * notice_length
within a long = omega (arith, notices_length a.ledger.count a.ledger.items long)

pub printed : (text place out : List ℕ) (size : ℕ) → size ≡ length text → out ≡ fitted place text → length text ≤ length place
    → take size out ≡ text
printed text place out size e is h =
    let fits : 0 + length text ≤ length place = omega (arith, h) in
    rw (e, is, le-leb (length text) (length place) h, sets-eq text place 0 fits) (take-append_seam text (drop (0 + length text) place))
