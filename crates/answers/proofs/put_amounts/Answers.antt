-- Four numbers, one behind the other.
use Rattle.std.proofs.Common.{◌≡◌, ap, ◌∙◌, rules, w32, to_z, of_z}
use Rattle.frames.specs.Digits.{bytes}
use Rattle.frames.proofs.Digits.{length_digits}
use Rattle.answers.specs.Answers.{twos_complement}
use Rattle.answers.proofs.Writing.{put_first, put_more, put_all, net_bits}
use Rattle.answers.proofs.put_amounts.Goals as goal

pub returns : goal.returns
returns c =
    let a = c.args in
    let same : to_z w32 (of_z w32 a.net) ≡ a.net = search rules in
    let bits = c.from.ensures ∙ rw same at c.cast_unsigned.ensures ∙ net_bits a.net in
    let net = put_first a.out.now (length_digits 16 8 (twos_complement a.net)) (c.put_bytes.ensures ∙ ap (bytes 4) bits) in
    let interest = put_more net (length_digits 16 16 a.interest) c.put_bytes-2.ensures in
    let unpaid = put_more interest (length_digits 16 16 a.unpaid) c.put_bytes-3.ensures in
    put_all (put_more unpaid (length_digits 16 8 a.credit) c.put_bytes-4.ensures) c.requires
