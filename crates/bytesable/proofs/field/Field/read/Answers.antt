use Rattle.std.proofs.Common.{refl}
use Rattle.octets.specs.Octets.{octets}
use Rattle.bytesable.proofs.Fielding.{field_read}
use Rattle.bytesable.proofs.field.Field.read.Goals as goal

pub returns : goal.returns
returns g c =
    record {
      answer = field_read c.args.bytes.now c.args.self.at g.N.Number.width c.args.self.tag c.args.self.size (λ x. octets g.N.Number.width (g.N.Number.pattern x)) c.read_at.result (c.if-not-has_head.ensures.0 refl) c.read_at.ensures.answer;
    }
