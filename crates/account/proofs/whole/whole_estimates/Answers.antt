use Rattle.std.proofs.Common.{◌∙◌, sym, rules}
use Rattle.std.proofs.lemmas.Iterator.{YieldsList-from_slice}
use Rattle.std.proofs.lemmas.Iterator.Search.{all_from_yields_List}
use Rattle.account.specs.Whole.{whole_estimate}
use Rattle.lists.proofs.Every.{every_is_all}
use Rattle.account.proofs.whole.whole_estimates.Goals as goal

pub returns : goal.returns
returns c =
    all_from_yields_List (whole_estimate c.args.latest) _ _ _ c.all.ensures.ran (YieldsList-from_slice c.args.estimates.now cc)
    (λ x b q k. search rules) ∙
    sym (every_is_all (whole_estimate c.args.latest) c.args.estimates.now)
