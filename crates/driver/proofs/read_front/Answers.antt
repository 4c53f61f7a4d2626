-- A read puts bytes behind those that were read before it (`read_on`); the array's bytes from the front are the file's.
use Rattle.std.proofs.Common.{◌≡◌, ◌∙◌, ◌+◌, ◌-◌, ◌<◌, arith, rules, length, take, length-take-le}
use borrow.Rule.Slice.PartMut.{put_mid, mid_of, same_len_mid}
use Rattle.std.specs.Io.KnownBytes.{Consumes}
use Rattle.closedfile.specs.ClosedFile.{longest_file}
use Rattle.driver.proofs.Runs.{read_on, room_left, full_front, whole_front}
use Rattle.driver.proofs.read_front.Goals as goal

pub loop-length-preserved : goal.loop-length-preserved
loop-length-preserved g c =
    let l = c.loop-length in
    let at = l.length in
    let room = longest_file + 1 - at in
    let same : length c.read.new.buf ≡ length (mid_of at room l.bytes) = search rules in
    record {
      long = same_len_mid at room l.bytes c.read.new.buf same ∙ l.invariant.long;
      within = search rules;
      read = read_on _ _ _ at room c.in-Ok.count l.bytes c.read.new.buf (omega (arith, l.invariant.long, l.invariant.within))
          c.in-Ok.ensures.bound.0 l.invariant.read c.in-Ok.ensures.bytes.0;
    }

pub returns-then-count-eq0-clause-known : goal.returns-then-count-eq0-clause-known
returns-then-count-eq0-clause-known g c =
    let l = c.loop-length in
    let at = l.length in
    let room = longest_file + 1 - at in
    let all = put_mid at room l.bytes c.read.new.buf in
    let same : length c.read.new.buf ≡ length (mid_of at room l.bytes) = search rules in
    let read : Consumes (g.F.Read.remaining c.args.file.now) (g.F.Read.remaining c.read.new.self) (take (at + c.in-Ok.count) all) =
    read_on _ _ _ at room c.in-Ok.count l.bytes c.read.new.buf (omega (arith, l.invariant.long, l.invariant.within)) c.in-Ok.ensures.bound.0
    l.invariant.read c.in-Ok.ensures.bytes.0 in
    let none : at + c.in-Ok.count ≡ at = omega (arith, c.if-count-eq0.true) in
    let long : length all ≡ longest_file + 1 = same_len_mid at room l.bytes c.read.new.buf same ∙ l.invariant.long in
    let front : length (take at all) ≡ at = length-take-le at all (omega (arith, long, l.invariant.within)) in
    let some : 0 < length c.read.new.buf = room_left at room l.bytes c.read.new.buf (omega (arith, l.invariant.long, l.invariant.within))
    (omega (arith, c.loop-length-test.true)) same in
    whole_front _ _ _ (longest_file + 1) (omega (arith, front, l.invariant.within)) (rw none at read)
    (c.in-Ok.ensures.bytes.1 c.if-count-eq0.true some)

pub returns-clause-known : goal.returns-clause-known
returns-clause-known g c =
    let l = c.loop-length in
    let long : length (take l.length l.bytes) ≡ l.length =
    length-take-le l.length l.bytes (omega (arith, l.invariant.long, l.invariant.within)) in
    full_front _ _ _ (longest_file + 1) (omega (arith, long, l.invariant.within, c.loop-length-test.false)) l.invariant.read
