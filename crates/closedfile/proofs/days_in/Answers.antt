-- A line of another form, a line too many, and days that break the bounds each make a file of another form.
use Rattle.std.specs.Prelude.{Some, None}
use Rattle.common.proofs.Words.{cond, ◌≡◌, ap, ◌∙◌, false, ◌<◌, List, ℕ, arith}
use Rattle.std.specs.declared.slice.Chunks.{Chunks}
use Rattle.std.specs.Slice.Iter.{chunks_rest, chunks_size}
use Rattle.common.proofs.Cases.{by_test}
use Rattle.duedays.specs.{DueDays.list_allowed, Limits.most_listed}
use Rattle.closedfile.specs.ClosedFile.{is_formed, days_in, held}
use Rattle.closedfile.proofs.ClosedFile.{cut_at, reads_start, reads_on, reads_none, reads_many}
use Rattle.closedfile.proofs.ClosedFile.{days_stand, formed_is, held_is}
use Rattle.closedfile.proofs.days_in.Goals as goal

-- where the file turns out not to be of the form
none_held : (file : List ℕ) → is_formed file ≡ false → None ≡ cond (is_formed file) (Some (held (days_in file))) None
none_held file e = rw e

pub loop-line-init : goal.loop-line-init
loop-line-init c =
    let is = c.into_iter-line-iterator.ensures.into_iter_gives in
    let size = ap (λ (it : Chunks ℕ). chunks_size it) is ∙ c.chunks-line-items.ensures.size in
    let rest = ap (λ (it : Chunks ℕ). chunks_rest it) is ∙ c.chunks-line-items.ensures.rest in
    record { can_next = omega (arith, size); finite = tt; size_is = size; few = omega arith; reads = reads_start rest }

-- a line too many
pub returns-then-full : goal.returns-then-full
returns-then-full c =
    let ahead = chunks_rest c.loop-line.line-iterator in
    let cut = cut_at ahead c.in-Some.line.now (chunks_rest c.next.new.self) c.loop-line.invariant.size_is c.in-Some.ensures.steps.1 in
    none_held c.args.file.now (reads_many c.loop-line.invariant.reads cut c.if-full.true)

-- a line of another form
pub returns-in_err-days : goal.returns-in_err-days
returns-in_err-days c =
    let ahead = chunks_rest c.loop-line.line-iterator in
    let cut = cut_at ahead c.in-Some.line.now (chunks_rest c.next.new.self) c.loop-line.invariant.size_is c.in-Some.ensures.steps.1 in
    rw c.from_residual.ensures (none_held c.args.file.now (reads_none c.loop-line.invariant.reads cut c.in_err-days.ensures))

pub loop-line-preserved : goal.loop-line-preserved
loop-line-preserved c =
    let inv = c.loop-line.invariant in
    let ahead = chunks_rest c.loop-line.line-iterator in
    let cut = cut_at ahead c.in-Some.line.now (chunks_rest c.next.new.self) inv.size_is c.in-Some.ensures.steps.1 in
    let room : c.loop-line.count < most_listed = omega (arith, inv.few) in
    let size = c.in-Some.ensures.steps.0 ∙ inv.size_is in
    record {
      can_next = omega (arith, size);
      finite = tt;
      size_is = size;
      few = omega arith;
      reads = reads_on inv.reads cut room c.in_ok-days.ensures;
    }

-- The file ended: the bounds decide.
pub returns : goal.returns
returns c =
    let reads = c.loop-line.invariant.reads in
    let ended = c.in-None.ensures.steps.1.0 in
    rw (c.then_some.ensures, held_is reads ended, c.is_list_allowed.ensures, days_stand reads ended, formed_is reads ended)
    (by_test (list_allowed (days_in c.args.file.now)) (λ e. rw e) (λ e. rw e))
