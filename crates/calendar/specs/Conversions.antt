-- What numbers and dates convert to: the days 0 to 36,524, 1 January 2000 to 31 December 2099, and "none" for all else.
use Rattle.std.specs.Prelude.{Bool, cond, ◌&&◌, ℕ, ◌≤◌, Option, Some, None}
use Rattle.common.specs.Range.{within}
pub use Rattle.calendar.specs.Limits.{first_number, last_number}
use Rattle.calendar.specs.{declared.Date.Date, declared.Day.Day}
use Rattle.calendar.specs.Gregorian.{month_length, date_at, day_number}

-- The years 2000 to 2099, their months, and the days of each month.
unfoldable pub is_date : Date → Bool
is_date date = within 2000 2099 date.year && within 1 12 date.month && within 1 (month_length date.year date.month) date.day

unfoldable pub to_date : ℕ → Option Date
to_date number = cond (within first_number last_number number) (Some (date_at number)) None

unfoldable pub from_date : Date → Option Day
from_date date = cond (is_date date) (Some (record { number = day_number date })) None

pub record InCentury (year : ℕ) : Type 0 where
  pub from_2000 : 2000 ≤ year
  pub to_2099 : year ≤ 2099

pub record IsMonth (month : ℕ) : Type 0 where
  pub from_january : 1 ≤ month
  pub to_december : month ≤ 12
