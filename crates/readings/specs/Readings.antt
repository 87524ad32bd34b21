-- Worked readings of the wire format. Assumes nothing.
use Rattle.std.specs.Prelude.{◌≡◌, true, false, [], ◌∷◌, take, pos, Some, None}
use Rattle.std.specs.Float.{fin}
use Rattle.networking.specs.Headers.{read_of, Fit}
use Rattle.networking.specs.declared.header.MessageHeader.{MessageHeader}
use Rattle.bytesable.specs.Rays.{ray_octets}
use Rattle.bytesable.specs.Tweaks.{tweak_octets}
use Rattle.bytesable.specs.declared.ray.Ray.{Ray}
use Rattle.bytesable.specs.declared.tweak.Tweak.TheVariants.{Thickness, Index}
use Rattle.framing.specs.Messages.{sized, message_of}

pub record Readings : Type 0 where
  -- 76 bytes of a Ray's message give no header, and 77 do
  pub torn_ray : (h : MessageHeader) (r : Ray) → Fit h → read_of (take 76 (message_of h (ray_octets r))) ≡ None
  pub whole_ray : (h : MessageHeader) (r : Ray) → Fit h → read_of (take 77 (message_of h (ray_octets r))) ≡ Some (sized h 29)
  -- thickness 1.0 is 10 00 08 3F F0 and six zeros
  pub thickness_one : tweak_octets (Thickness (fin false 1 (pos 0))) ≡ 16 ∷ 0 ∷ 8 ∷ 63 ∷ 240 ∷ 0 ∷ 0 ∷ 0 ∷ 0 ∷ 0 ∷ 0 ∷ []
  -- index -0.0 is 12 00 08 80 and seven zeros
  pub index_minus_zero : tweak_octets (Index (fin true 0 (pos 0))) ≡ 18 ∷ 0 ∷ 8 ∷ 128 ∷ 0 ∷ 0 ∷ 0 ∷ 0 ∷ 0 ∷ 0 ∷ 0 ∷ []
