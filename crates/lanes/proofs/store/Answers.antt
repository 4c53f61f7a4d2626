-- Store by store, what lies from the oldest item on.
use Rattle.std.proofs.Common.{◌≡◌, sym, ◌+◌, ◌-◌, arith}
use Rattle.ledger.specs.Numbers.{taken_up, part, less_paid}
use Rattle.ledger.proofs.Places.{part_oldest, less_none, taken_up_most}
use Rattle.lanes.proofs.store.Goals.{then-settled-gt0, else-settled-gt0}
use Rattle.lanes.proofs.store.Goals as goal

pub post-third-requires : goal.post-third-requires
post-third-requires c = omega (arith, taken_up_most c.args.settled.held.unpaid)

pub post-requires : goal.post-requires
post-requires c =
    omega (arith, taken_up_most c.args.settled.held.unpaid, taken_up_most c.args.settled.charge.unpaid)

pub returns-clause-lie : goal.returns-clause-lie
returns-clause-lie c =
    let a = c.args in
    let oldest = a.settled.queue.front in
    let staying = a.end - oldest in
    let second = staying + taken_up a.settled.held.unpaid in
    let rest = part oldest staying a.places.now in
    let third-lie = c.post.ensures.lie oldest (second + taken_up a.settled.charge.unpaid) (omega arith) in
    let second-lie = c.post-third.ensures.lie oldest second (omega arith) in
    let first-lie = c.post-second.ensures.lie oldest staying (omega arith) in
    let oldest-lie : part oldest staying c.if-settled-gt0.places ≡ less_paid a.day a.settled.paid rest =
    elim c.if-settled-gt0.branch [
      | then-settled-gt0 w ↦ rw (w.places-is, w.reduced.ensures) (part_oldest a.day oldest staying a.settled.paid a.places.now (omega arith))
      | else-settled-gt0 w ↦
          let none : a.settled.paid ≡ 0 = omega (arith, w.if-settled-gt0.false) in
          rw w.places-is (sym (less_none a.day a.settled.paid rest none))
    ]
    in
    cc
