use Rattle.std.proofs.Common.{◌≡◌, ◌+◌, ◌++◌, length, sym, refl, ap, ◌∙◌, arith}
use lib.Seq.{paste}
use Rattle.octets.specs.Octets.{octets}
use Rattle.octets.proofs.Laying.{lays_ok, paste-paste}
use Rattle.octets.proofs.Spelling.{length-octets}
use Rattle.bytesable.specs.Fields.{head}
use Rattle.bytesable.proofs.Fielding.{length-field}
use Rattle.bytesable.proofs.field.Field.put.Goals as goal

pub returns : goal.returns
returns g c =
    let w = g.N.Number.width in
    let os = octets w (g.N.Number.pattern c.args.number) in
    let d = c.args.out.now in
    let first : c.put.new.out ≡ paste d c.args.self.at (head c.args.self.tag c.args.self.size) 3 = c.in_ok-put.ensures.after.1 in
    let long : length os ≡ w = length-octets w _ in
    let second = lays_ok os (c.args.self.at + 3) c.put.new.out c.write_at.result c.write_at.new.out c.write_at.ensures.after (omega (arith, c.requires)) in
    record {
      after = second.1 ∙ ap (paste c.put.new.out (c.args.self.at + 3) os) long ∙ ap (λ l. paste l (c.args.self.at + 3) os w) first ∙ paste-paste d c.args.self.at (head c.args.self.tag c.args.self.size) 3 os w refl long (omega (arith, c.requires)) ∙ ap (paste d c.args.self.at (head c.args.self.tag c.args.self.size ++ os)) (sym (length-field w c.args.self.tag c.args.self.size _));
      granted = second.0;
    }
