-- The estimates that stand fill the front, the new one is stored behind them (`pad_store`), and the array is that of the list with it.
use Rattle.common.proofs.Words.{◌≡◌, ◌++◌, [], ◌∷◌, refl, arith, drop, length, length-append, replicate}
use Rattle.lists.specs.Pad.{pad}
use Rattle.lists.proofs.Pad.{drop_replicate, pad_store}
use Rattle.meter.specs.Sharing.{blank}
use Rattle.intake.specs.Limits.{most_misses}
use Rattle.account.proofs.calls.with_estimate.Goals as goal

pub returns : goal.returns
returns c =
    let front = c.args.standing.periods.now in
    let n = length front in
    let filled : front ++ drop n (replicate most_misses blank) ≡ pad most_misses blank front = rw (drop_replicate blank n most_misses) refl in
    let stored = pad_store blank most_misses n front c.args.estimate refl (omega arith) in
    rw (c.copy_from_slice.ensures.after, c.no_estimates-none.ensures, filled, stored, length-append front (c.args.estimate ∷ []))
