-- The binary64 pattern of a float. Assumes nothing.
use Rattle.std.specs.Prelude.{ℕ, cond, to_bits, Float}
use Rattle.std.specs.Float.{binary64}
use Rattle.std.specs.Float.Ieee.{fits}

-- The pattern of every value of binary64, which for a not-a-number is 7FF8000000000000.
-- An f64 is always such a value; what is none has no pattern of its own, and gets that of a not-a-number.
unfoldable pub pattern_of : Float → ℕ
pattern_of x = cond (fits binary64 x) (to_bits binary64 x) 9221120237041090560
