-- The items lie in front of the places, of which there are as many as before.
use Rattle.std.proofs.Common.{◌≡◌, ◌≤◌, arith, length, ◌∙◌}
use lib.Seq.{length-take-le}
use Rattle.ledger.specs.Limits.{capacity}
use Rattle.lanes.proofs.Places.{in_front, put_in_front}
use Rattle.lanes.proofs.spread.Goals as goal

fits : (c : goal.After-copy_from_slice) → capacity ≤ length c.args.places.now
fits c = omega (arith, c.told-places)

as_many : (c : goal.After-copy_from_slice) → length c.copy_from_slice.new.self ≡ capacity
as_many c = c.copy_from_slice.ensures.len ∙ length-take-le capacity c.args.places.now (fits c)

pub returns-clause-front : goal.returns-clause-front
returns-clause-front c = in_front capacity c.copy_from_slice.new.self _ (as_many c) ∙ c.copy_from_slice.ensures.after

pub returns-clause-long : goal.returns-clause-long
returns-clause-long c = put_in_front capacity c.copy_from_slice.new.self c.args.places.now (as_many c) (fits c) ∙ c.told-places
