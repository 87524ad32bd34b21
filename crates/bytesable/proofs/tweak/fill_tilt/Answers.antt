use Rattle.std.proofs.Common.{◌++◌, refl, sym, ◌∙◌, arith}
use Rattle.octets.specs.Patterns.{pattern_of}
use Rattle.octets.proofs.Laying.{lays_ok, fills_ok}
use Rattle.octets.proofs.Pasting.{begin, more, done}
use Rattle.octets.proofs.Spelling.{length-octets}
use Rattle.bytesable.specs.Fields.{head}
use Rattle.bytesable.specs.Tweaks.{double}
use Rattle.bytesable.specs.declared.tweak.Tweak.TheVariants.{Tilt}
use Rattle.bytesable.proofs.Fielding.{length-field}
use Rattle.bytesable.proofs.TweakLaws.{length-tweak_octets, tilt_spelled}
use Rattle.bytesable.proofs.tweak.fill_tilt.Goals as goal

pub returns : goal.returns
returns c =
    let x = c.args.first in
    let y = c.args.second in
    let b = more 11 {s = head 17 16 ++ double x} (begin 19 c.args.out.now c.requires) c.in_ok-put.ensures.after refl (length-field 8 17 16 _) (omega arith) in
    let w = lays_ok (double y) 11 c.put.new.out c.write_at.result c.write_at.new.out c.write_at.ensures.after (omega (arith, b.long, length-octets 8 (pattern_of y))) in
    let d = more 8 {s = double y} b w.1 refl (length-octets 8 _) (omega arith) in
    fills_ok _ c.args.out.now c.write_at.result c.write_at.new.out w.0 (c.requires ∙ sym (length-tweak_octets (Tilt x y))) (done d ∙ tilt_spelled x y)
