use Rattle.std.proofs.Common.{sym, refl, ◌∙◌, append_assoc, arith, rules}
use Rattle.octets.proofs.Pasting.{begin, more, done}
use Rattle.bytesable.proofs.Fielding.{length-field}
use Rattle.bytesable.proofs.RayLaws.{length-ray_octets, surface_of, height_of, path_of, ray_octets_spelled, held}
use Rattle.bytesable.proofs.ray.RayBytesable.into_bytes.Goals as goal

pub returns : goal.returns
returns c =
    let ray = c.args.self.now in
    let b0 = begin 29 c.args.out.now (omega arith) in
    let b1 = more 7 {s = surface_of ray} b0 c.in_ok-put.ensures.after refl (length-field 4 1 4 ray.surface) (omega arith) in
    let b2 = more 11 b1 c.in_ok-put-2.ensures.after (sym (held ray.height 2 8 (search rules))) (length-field 8 2 8 _) (omega arith) in
    let b3 = more 11 b2 c.in_ok-put-3.ensures.after (sym (held ray.path 3 8 (search rules))) (length-field 8 3 8 _) (omega arith) in
    record { after = (b0.long ∙ sym (length-ray_octets ray), done b3 ∙ append_assoc (surface_of ray) (height_of ray) (path_of ray) ∙ ray_octets_spelled ray) }
