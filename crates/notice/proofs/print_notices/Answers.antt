-- There is room for the notices, whatever the account (`within`), and the room's front is them (`printed`).
use Rattle.std.proofs.Common.{◌≡◌, ◌*◌, ◌≤◌, arith, rules, length, take, replicate, sym, length-take-le}
use Rattle.lists.proofs.Pad.{length_of_mapped}
use Rattle.ledger.specs.Limits.{capacity}
use Rattle.answers.specs.Notices.{notice_length}
use Rattle.text.specs.Output.{open_notices}
use Rattle.notice.proofs.Printed.{within, printed}
use Rattle.notice.proofs.print_notices.Given as given
use Rattle.notice.proofs.print_notices.Goals as goal
use Rattle.notice.proofs.print_notices.Goals.{After-put_notices-size}

module _ (g : given.Over) (c : After-put_notices-size g) where
  most : length (open_notices c.args.account) ≤ capacity * notice_length
  most = let long : length c.args.account.ledger.items ≡ capacity = search (length_of_mapped, rules) in within c.args.account long

  out_long : length c.put_notices-size.new.out ≡ capacity * notice_length
  out_long = search rules

  size_most : c.put_notices-size.result ≤ length c.put_notices-size.new.out
  size_most = omega (arith, most, out_long, c.put_notices-size.ensures.value)

  shown : take c.put_notices-size.result c.put_notices-size.new.out ≡ open_notices c.args.account
  shown =
      let put = c.put_notices-size.ensures in
      printed (open_notices c.args.account) (replicate (capacity * notice_length) 0) _ _ put.value put.out_after (omega (arith, most))

pub slice_bounds-out-end : goal.slice_bounds-out-end
slice_bounds-out-end g c = size_most g (goal.at.slice_bounds-out-end g c).After-put_notices-size

pub slice_bounds-write_all-end : goal.slice_bounds-write_all-end
slice_bounds-write_all-end g c = sym (length-take-le _ _ (size_most g (goal.at.slice_bounds-write_all-end g c).After-put_notices-size))

pub returns : goal.returns
returns g c = rw (← shown g (goal.at.returns g c).After-put_notices-size) (search rules)
