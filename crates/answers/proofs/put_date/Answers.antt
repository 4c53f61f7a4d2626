-- Year, month and day, one behind the other.
use Rattle.std.proofs.Common.{rules}
use Rattle.frames.proofs.Digits.{length_digits}
use Rattle.answers.proofs.Writing.{put_first, put_more, put_all, digits_zero}
use Rattle.answers.proofs.put_date.Goals as goal

pub returns-in-Some : goal.returns-in-Some
returns-in-Some c =
    let date = c.in-Some.date in
    let year = put_first c.args.out.now (length_digits 10 4 date.year) c.put_decimal.ensures in
    let month = put_more year (length_digits 10 2 date.month) c.put_decimal-in-Some.ensures in
    let day = put_more month (length_digits 10 2 date.day) c.put_decimal-in-Some-2.ensures in
    let found = rw c.from.ensures at c.in-Some.ensures in rw (← found) (put_all day c.requires)

pub returns-in-None : goal.returns-in-None
returns-in-None c =
    let filled = c.fill.ensures.after (λ y h. search rules) in
    let found = rw c.from.ensures at c.in-None.ensures in
    rw (← found, digits_zero 10 8) (rw c.requires at filled)
