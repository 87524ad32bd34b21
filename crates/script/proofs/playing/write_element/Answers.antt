use Rattle.std.proofs.Common.{arith}
use Rattle.bytesable.proofs.RayLaws.{length-ray_octets}
use Rattle.bytesable.proofs.TweakLaws.{length-tweak_octets, size_most}
use Rattle.script.proofs.playing.write_element.Goals as goal

pub write_bytesable-requires : goal.write_bytesable-requires
write_bytesable-requires c = omega (arith, length-ray_octets c.in-Ray.ray)

pub write_bytesable-requires-in-Tweak : goal.write_bytesable-requires-in-Tweak
write_bytesable-requires-in-Tweak c = omega (arith, length-tweak_octets c.in-Tweak.tweak, size_most c.in-Tweak.tweak)
