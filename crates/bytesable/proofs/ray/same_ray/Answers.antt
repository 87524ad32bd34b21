use Rattle.std.proofs.Common.{rules}
use Rattle.bytesable.proofs.RayLaws.{RayFits, ray_decides}
use Rattle.bytesable.proofs.ray.same_ray.Goals as goal

pub returns : goal.returns
returns c =
    let a = c.args.a in
    let b = c.args.b in
    let f : RayFits a = record { surface = search rules; height = search rules; path = search rules } in
    let g : RayFits b = record { surface = search rules; height = search rules; path = search rules } in
    rw c.eq.ensures (ray_decides a b f g)
