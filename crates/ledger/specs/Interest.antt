-- Interest on what of a price item is paid late: article 27.
use Rattle.std.specs.Prelude.{Bool, true, false, cond, ◌&&◌, ℕ, ◌+◌, ◌-◌, ◌*◌, ◌/◌, min, ltb}
use Rattle.tax.specs.Rate.{tax_rate}
use Rattle.ledger.specs.{declared.Kind.Kind, declared.Kind.TheVariants.Interest, declared.Kind.TheVariants.Price}
use Rattle.ledger.specs.declared.Item.{Item}

abbrev pub is_price : Kind → Bool
is_price Interest = false
is_price Price = true

-- 27(2): the body of a price, the amount less the tax in it: 8/108 or 10/110, by the rate of its obligation day.
unfoldable pub body : ℕ → ℕ → ℕ
body amount obligation = amount - amount * tax_rate obligation / (100 + tax_rate obligation)

-- Interest has none.
abbrev pub body_of : Kind → ℕ → ℕ → ℕ
body_of Interest amount obligation = 0
body_of Price amount obligation = body amount obligation

-- Days late: the day of a payment − due day, and 0 up to the due day.
abbrev pub days_late : ℕ → ℕ → ℕ
days_late due day = day - due

-- 27(1)②: up to 10 days late none counts, above that all of them do.
unfoldable pub counted_days : ℕ → ℕ → ℕ
counted_days due day = cond (ltb 10 (days_late due day)) (days_late due day) 0

-- A part goes to the body first and to the tax last: what of the body it pays, times its late days, joins the gathered sum.
abbrev pub gathered_with : ℕ → Item → ℕ → ℕ
gathered_with day item money = item.gathered + min item.share money * counted_days item.due day

-- The interest of a gathered sum: × 274 / 1,000,000, cut once to a yen. Interest bears none.
unfoldable pub borne : Kind → ℕ → ℕ
borne kind gathered = cond (is_price kind) (gathered * 274 / 1000000) 0

-- 27(1): what an item brings that is settled on this day: its last part is all that is unpaid of it.
abbrev pub interest_on : Item → ℕ → ℕ
interest_on item day = borne item.kind (gathered_with day item item.unpaid)

-- What a bill bears that is paid in one sum: body × late × 274 / 1,000,000. `Interest.in_one_sum` shows it; nothing else goes by it.
unfoldable pub interest_in_one_sum : Item → ℕ → ℕ
interest_in_one_sum item day =
    cond (is_price item.kind && ltb 10 (days_late item.due day)) (body item.amount item.obligation * days_late item.due day * 274 / 1000000) 0
