use Rattle.std.proofs.Common.{◌≡◌, rules}
use Rattle.std.specs.Option.{option_map}
use Rattle.bytesable.specs.declared.tweak.Tweak.TheVariants.{Thickness, Index}
use Rattle.bytesable.proofs.TweakLaws.{single_or}
use Rattle.bytesable.proofs.tweak.Tweak.read_single.Goals as goal

pub returns : goal.returns
returns c =
    let r = c.read-thickness.result in
    let s = c.read-index.result in
    let t : c.map.result ≡ option_map Thickness r = search rules in
    let u : c.map-2.result ≡ option_map Index s = search rules in
    record { answer = single_or c.args.from.now r s c.or.result c.requires c.read-thickness.ensures.answer c.read-index.ensures.answer (rw (c.or.ensures, t, u)) }
