-- What is printed of an answer. Assumes nothing.
use Rattle.std.specs.Prelude.{ℕ, List, [], ◌++◌, Some, None, vec_items, codes, decimal, Option, to_bits, Float}
use Rattle.std.specs.Float.{binary64}
use Rattle.std.specs.Fmt.{signed_decimal}
use Rattle.answers.specs.Faults.{number_of}
use Rattle.networking.specs.declared.header.MessageHeader.{MessageHeader}
use Rattle.bytesable.specs.Blocks.{block_octets}
use Rattle.bytesable.specs.declared.ray.Ray.{Ray}
use Rattle.bytesable.specs.declared.tweak.Tweak.{Tweak}
use Rattle.bytesable.specs.declared.tweak.Tweak.TheVariants.{Thickness, Tilt, Index}
use Rattle.words.specs.Hexadecimals.{spelled, pattern_spelled}
use Rattle.script.specs.Names.{verb_name}
use Rattle.script.specs.declared.answer.Answer.{Answer}
use Rattle.script.specs.declared.answer.Answer.TheVariants as answer
use Rattle.script.specs.declared.element.Element.{Element}
use Rattle.script.specs.declared.element.Element.TheVariants as element

-- the six numbers of a header
abbrev pub header_shown : MessageHeader → List ℕ
header_shown h =
    codes "read " ++ (decimal h.channel ++ (codes " " ++ (decimal h.source ++ (codes " " ++ (decimal h.target_lower ++ (codes " " ++ (decimal h.target_upper ++ (codes " " ++ (decimal h.length ++ (codes " " ++ decimal h.seqno))))))))))

abbrev pub read_shown : Option MessageHeader → List ℕ
read_shown None = codes "read absent"
read_shown (Some h) = header_shown h

abbrev pub ray_shown : Ray → List ℕ
ray_shown r = codes "ray " ++ (decimal r.surface ++ (codes " " ++ (signed_decimal r.height ++ (codes " " ++ signed_decimal r.path))))

-- a float by its binary64 pattern
abbrev pub float_shown : Float → List ℕ
float_shown x = pattern_spelled (to_bits binary64 x)

abbrev pub tweak_shown : Tweak → List ℕ
tweak_shown (Thickness x) = codes "thickness " ++ float_shown x
tweak_shown (Tilt x y) = codes "tilt " ++ (float_shown x ++ (codes " " ++ float_shown y))
tweak_shown (Index x) = codes "index " ++ float_shown x

abbrev pub element_shown : Element → List ℕ
element_shown (element.Ray r) = ray_shown r
element_shown (element.Tweak t) = tweak_shown t
element_shown (element.Block b) = codes "block " ++ spelled (block_octets b)

-- the line of an answer
abbrev pub shown_of : Answer → List ℕ
shown_of answer.Nothing = []
shown_of (answer.Unreadable None) = codes "unreadable"
shown_of (answer.Unreadable (Some v)) = verb_name v ++ codes " unreadable"
shown_of (answer.Message v) = codes "message " ++ spelled (vec_items v)
shown_of (answer.Header r) = read_shown r
shown_of (answer.Element e) = codes "element " ++ element_shown e
shown_of (answer.Refused v f) = verb_name v ++ (codes " refused " ++ decimal (number_of f))
