use Rattle.std.proofs.Common.{◌≡◌, ◌++◌, sym, refl, ap, ◌∙◌, arith, rules}
use Rattle.octets.proofs.Pasting.{begin, more, done}
use Rattle.octets.proofs.Spelling.{length-octets}
use Rattle.networking.specs.Headers.{octets_of, read_of, Fit}
use Rattle.networking.proofs.Framing.{length-octets_of, written, back}
use Rattle.networking.proofs.header.MessageHeader.write_to.Goals as goal

pub returns : goal.returns
returns c =
    let h = c.args.self.now in
    let b0 = begin 48 c.args.out.now (omega arith) in
    let b1 = more 8 b0 c.in_ok-write_at.ensures.after.1 refl (length-octets 8 _) (omega arith) in
    let b2 = more 8 b1 c.in_ok-write_at-2.ensures.after.1 refl (length-octets 8 _) (omega arith) in
    let b3 = more 8 b2 c.in_ok-write_at-3.ensures.after.1 refl (length-octets 8 _) (omega arith) in
    let b4 = more 8 b3 c.in_ok-write_at-4.ensures.after.1 refl (length-octets 8 _) (omega arith) in
    let b5 = more 8 b4 c.in_ok-write_at-5.ensures.after.1 refl (length-octets 8 _) (omega arith) in
    let b6 = more 8 b5 c.in_ok-write_at-6.ensures.after.1 refl (length-octets 8 _) (omega arith) in
    let f : Fit h = record { channel = search rules; source = search rules; lower = search rules; upper = search rules; length = search rules; seqno = search rules } in
    let w : c.write_at-6.new.out ≡ octets_of h = done b6 ∙ written h in
    record {
      after = (b0.long ∙ sym (length-octets_of h), w);
      back = λ rest fits. ap (λ bs. read_of (bs ++ rest)) w ∙ back h rest f fits;
    }
