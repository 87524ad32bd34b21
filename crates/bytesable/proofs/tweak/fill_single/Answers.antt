use Rattle.std.proofs.Common.{◌++◌, length, refl, sym, ap, ◌∙◌, arith}
use Rattle.std.proofs.Math.Seq.{paste}
use Rattle.octets.proofs.Laying.{fills_ok}
use Rattle.octets.proofs.Pasting.{begin, more, done}
use Rattle.bytesable.specs.Fields.{head}
use Rattle.bytesable.specs.Tweaks.{double}
use Rattle.bytesable.proofs.Fielding.{length-field}
use Rattle.bytesable.proofs.tweak.fill_single.Goals as goal

pub returns : goal.returns
returns c =
    let os = head c.args.field.tag c.args.field.size ++ double c.args.x in
    let long = length-field 8 c.args.field.tag c.args.field.size _ in
    let written = c.put.ensures.after ∙ ap (λ i. paste c.args.out.now i os (length os)) c.requires.front in
    let b = more 11 {s = os} (begin 11 c.args.out.now c.requires.size) written refl long (omega arith) in
    fills_ok _ c.args.out.now c.put.result c.put.new.out c.put.ensures.granted (c.requires.size ∙ sym long) (done b)
