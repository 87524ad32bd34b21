-- A tweak as octets. Assumes nothing.
use Rattle.std.specs.Prelude.{ℕ, List, ◌++◌, Float}
use Rattle.octets.specs.Octets.{octets}
use Rattle.octets.specs.Patterns.{pattern_of}
use Rattle.bytesable.specs.Fields.{field}
use Rattle.bytesable.specs.declared.tweak.Tweak.{Tweak}
use Rattle.bytesable.specs.declared.tweak.Tweak.TheVariants.{Thickness, Tilt, Index}

-- a float by its binary64 pattern
abbrev pub double : Float → List ℕ
double x = octets 8 (pattern_of x)

-- one field, whose tag says what its one or two floats are
unfoldable pub tweak_octets : Tweak → List ℕ
tweak_octets (Thickness x) = field 16 (double x)
tweak_octets (Tilt x y) = field 17 (double x ++ double y)
tweak_octets (Index x) = field 18 (double x)
