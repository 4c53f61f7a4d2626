-- A file of another form counts as a list that breaks the bounds.
use Rattle.common.proofs.Words.{sym, ap, ◌∙◌}
use Rattle.common.proofs.Cases.{by_test}
use Rattle.closedfile.specs.ClosedFile.{is_formed, held}
use Rattle.closedfile.proofs.ClosedFile.{formed, not_formed}
use Rattle.closedfile.proofs.list_in.Goals as goal

pub returns : goal.returns
returns c =
    let file = c.args.file.now in
    by_test (is_formed file) (λ e. rw (c.days_in.ensures, e) at c.unwrap_or_else.ensures ∙ ap held (sym (formed file e)))
    (λ e. rw (c.days_in.ensures, e) at c.unwrap_or_else.ensures ∙ ap held (sym (not_formed file e)))
