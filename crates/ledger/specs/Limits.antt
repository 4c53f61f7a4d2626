-- The bounds that a ledger keeps to, each once. Money is yen.
use Rattle.std.specs.Prelude.{ℕ, ◌-◌}
pub use Rattle.duedays.specs.Limits.{last_call_day}
use Rattle.duedays.specs.Limits.{term}

-- At most seventy-two items stand open.
abbrev pub capacity : ℕ
capacity = 72

-- No price item is of more.
abbrev pub most_price : ℕ
most_price = 1000000000

-- No interest item is of more, and no more interest is held.
abbrev pub most_interest : ℕ
most_interest = 1000000000000

-- No part is paid more days late: an item of day 0 is due on day 30 at the earliest.
abbrev pub most_late : ℕ
most_late = last_call_day - term

-- No item has gathered more of body yen × late days.
abbrev pub most_gathered : ℕ
most_gathered = 100000000000000

-- Along a list of calls no item that is settled brings more.
abbrev pub most_arisen : ℕ
most_arisen = 10000000000

-- Of any whole account no item that is settled brings more.
abbrev pub most_borne : ℕ
most_borne = 40000000000

-- No call brings more, as a payment or as a net below zero.
abbrev pub most_money : ℕ
most_money = 1000000000

-- 13: credit is at most 999,999,999 yen.
abbrev pub most_credit : ℕ
most_credit = 999999999

-- No sum of what is unpaid reaches more while an entry is worked.
abbrev pub most_owed : ℕ
most_owed = 100000000000000

-- The places among which open items lie. An entry posts at most three items: a queue that ends by `most_end` has room for them.
abbrev pub lane_places : ℕ
lane_places = 128

abbrev pub most_end : ℕ
most_end = 125
