-- The worked readings follow from the definitions. Assumes nothing.
use Rattle.std.proofs.Common.{◌≡◌, ℕ, ◌+◌, true, false, cond, leb, List, [], ◌∷◌, ◌++◌, length, take, pos, Some, None, refl, ap, ◌∙◌, arith, length-append, length-take-le, take_all}
use lib.Ieee.{fin, to_bits, fits, size, climb}
use Rattle.std.proofs.lemmas.Bool.{lt-leb, and_right}
use Rattle.octets.specs.Octets.{octets}
use Rattle.octets.specs.Patterns.{pattern_of}
use Rattle.networking.specs.Headers.{octets_of, header_at, is_whole, read_of, Fit}
use Rattle.networking.specs.declared.header.MessageHeader.{MessageHeader}
use Rattle.networking.proofs.Framing.{length-octets_of, back, header_back, fields_of_lem}
use Rattle.bytesable.specs.Rays.{ray_octets}
use Rattle.bytesable.specs.Tweaks.{tweak_octets}
use Rattle.bytesable.specs.declared.ray.Ray.{Ray}
use Rattle.bytesable.specs.declared.tweak.Tweak.TheVariants.{Thickness, Index}
use Rattle.bytesable.proofs.RayLaws.{length-ray_octets}
use Rattle.framing.specs.Messages.{sized, message_of}
use Rattle.framing.proofs.Joining.{length-message_of}
use Rattle.readings.specs.Readings.{Readings}

-- a ray's message has its length for a header's
ray_message : (h : MessageHeader) (r : Ray) → message_of h (ray_octets r) ≡ octets_of (sized h 29) ++ ray_octets r
ray_message h r = ap (λ n. octets_of (sized h n) ++ ray_octets r) (length-ray_octets r)

sized_fit : (h : MessageHeader) → Fit h → Fit (sized h 29)
sized_fit h f = record { channel = f.channel; source = f.source; lower = f.lower; upper = f.upper; length = omega arith; seqno = f.seqno }

whole_ray : (h : MessageHeader) (r : Ray) → Fit h → read_of (take 77 (message_of h (ray_octets r))) ≡ Some (sized h 29)
whole_ray h r f =
    let long : length (message_of h (ray_octets r)) ≡ 77 = length-message_of h (ray_octets r) ∙ ap (λ n. 48 + n) (length-ray_octets r) in
    ap read_of (take_all 77 (message_of h (ray_octets r)) (omega arith) ∙ ray_message h r) ∙ back (sized h 29) (ray_octets r) (sized_fit h f) (omega (arith, length-ray_octets r))

-- the front of a list that begins with a header
take_front : (h : MessageHeader) (os : List ℕ) → take 76 (octets_of h ++ os) ≡ octets_of h ++ take 28 os
unfolding octets octets_of
take_front h os = refl

torn_ray : (h : MessageHeader) (r : Ray) → Fit h → read_of (take 76 (message_of h (ray_octets r))) ≡ None
torn_ray h r f =
    let g = sized h 29 in
    let rest = take 28 (ray_octets r) in
    let bs = octets_of g ++ rest in
    let cut : take 76 (message_of h (ray_octets r)) ≡ bs = ap (take 76) (ray_message h r) ∙ take_front g (ray_octets r) in
    let few : length rest ≡ 28 = length-take-le 28 (ray_octets r) (omega (arith, length-ray_octets r)) in
    let long : length bs ≡ 76 = length-append (octets_of g) rest ∙ omega (arith, length-octets_of g, few) in
    let same : (header_at bs).length ≡ 29 = ap (λ x. x.length) (header_back g bs (fields_of_lem g rest) (sized_fit h f)) in
    let torn : is_whole bs ≡ false = and_right (leb 48 (length bs)) _ (lt-leb (48 + (header_at bs).length) (length bs) (omega arith)) in
    ap read_of cut ∙ ap (λ b. cond b (Some (header_at bs)) None) torn

thickness_one : tweak_octets (Thickness (fin false 1 (pos 0))) ≡ 16 ∷ 0 ∷ 8 ∷ 63 ∷ 240 ∷ 0 ∷ 0 ∷ 0 ∷ 0 ∷ 0 ∷ 0 ∷ []
unfolding tweak_octets octets pattern_of to_bits size climb fits
thickness_one = refl

index_minus_zero : tweak_octets (Index (fin true 0 (pos 0))) ≡ 18 ∷ 0 ∷ 8 ∷ 128 ∷ 0 ∷ 0 ∷ 0 ∷ 0 ∷ 0 ∷ 0 ∷ 0 ∷ []
unfolding tweak_octets octets pattern_of to_bits size climb fits
index_minus_zero = refl

pub readings : Readings
readings = record { torn_ray = torn_ray; whole_ray = whole_ray; thickness_one = thickness_one; index_minus_zero = index_minus_zero }
