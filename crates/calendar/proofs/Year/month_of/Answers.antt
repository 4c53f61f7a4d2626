use Rattle.std.proofs.Common.{ℕ, ◌∙◌, ◌+◌, ◌≤◌, ◌<◌, rules, tests}
use Rattle.std.proofs.lemmas.Iterator.{first_from_Range}
use Rattle.calendar.specs.Gregorian.{days_before_month}
use Rattle.calendar.proofs.Dates.{month_found}
use Rattle.calendar.proofs.Year.month_of.Goals as goal

pub returns : goal.returns
returns c =
    let day = c.args.day_of_year in
    let ends : ℕ → ℕ = λ month. days_before_month c.args.self.number (month + 1) in
    let first = first_from_Range _ _ _ _ (λ month. day < ends month) (λ month. ends month ≤ day) c.find.ensures.ran
    (λ x q k. search (rules, tests)) (λ x q k. search (rules, tests)) in
    c.unwrap_or.ensures ∙ month_found c.args.self.number day c.find.result c.args.self.in_century c.requires first
