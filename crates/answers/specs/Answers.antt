-- Output of `bill`: the frame of an answer, one a line.
use Rattle.std.specs.Prelude.{List, [], ◌∷◌, ◌++◌, ℕ, suc, ◌-◌, ◌^◌}
use lib.{IntN.ℤ, IntN.pos, IntN.negsuc, ListN.take}
use Rattle.lists.specs.Joined.{joined}
use Rattle.account.specs.declared.Answer.{Answer}
use Rattle.frames.specs.Digits.{line_feed, bytes}

-- Two's complement in 4 bytes.
abbrev pub twos_complement : ℤ → ℕ
twos_complement (pos n) = n
twos_complement (negsuc n) = 2 ^ 32 - suc n

-- Volumes, 4 bytes each.
abbrev pub volumes_bytes : List ℕ → List ℕ
volumes_bytes volumes = joined (bytes 4) volumes

-- Number (1), estimated volume (4), n (1).
abbrev pub head_bytes : ℕ → ℕ → ℕ → List ℕ
head_bytes number estimated count = bytes 1 number ++ bytes 4 estimated ++ bytes 1 count

-- Net (4), interest posted (8), unpaid (8), credit (4).
abbrev pub amounts_bytes : ℤ → ℕ → ℕ → ℕ → List ℕ
amounts_bytes net interest unpaid credit = bytes 4 (twos_complement net) ++ bytes 8 interest ++ bytes 8 unpaid ++ bytes 4 credit

abbrev pub answer_head : Answer → List ℕ
answer_head answer = head_bytes answer.number answer.estimated answer.volumes.count

abbrev pub answer_amounts : Answer → List ℕ
answer_amounts answer = amounts_bytes answer.net answer.interest answer.unpaid answer.credit

-- The n volumes, oldest first.
abbrev pub shown : Answer → List ℕ
shown answer = volumes_bytes (take answer.volumes.count answer.volumes.volumes)

abbrev pub answer_frame : Answer → List ℕ
answer_frame answer = answer_head answer ++ shown answer ++ answer_amounts answer

unfoldable pub answer_line : Answer → List ℕ
answer_line answer = answer_frame answer ++ (line_feed ∷ [])

-- No answer has more than seven volumes, so no line is longer.
abbrev pub longest_answer : ℕ
longest_answer = 117
