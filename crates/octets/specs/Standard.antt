-- What IEEE 754 (3.4) says of the fields of binary64: sign, biased exponent, trailing significand. Assumes nothing.
-- A value with the sign s is a fraction; 2 ^ 1074 is the weight of the last place of the smallest exponent.
use Rattle.std.specs.Prelude.{◌≡◌, ℕ, suc, ◌+◌, ◌*◌, ◌/◌, ◌%◌, ◌^◌, ◌<◌, Bool, T, pos, ◌≢◌, from_bits, nat_le, Float}
use Rattle.std.specs.Float.{nan, inf, fin, binary64}
use Rattle.std.specs.Float.Ieee.{fits, of_fields}
use Rattle.std.specs.Float.Ieee.Exact.{HasValue}
use Rattle.octets.specs.Patterns.{pattern_of}

pub record Standard : Type 0 where
  -- a pattern is its sign bit, eleven bits of exponent and fifty-two of significand
  pub fields : (n : ℕ) → from_bits binary64 n ≡ of_fields binary64 (nat_le (2 ^ 63) n) (n % 2 ^ 63 / 2 ^ 52) (n % 2 ^ 52)
  pub normal : (s : Bool) (x t : ℕ) → x < 2046 → HasValue (of_fields binary64 s (suc x) t) s ((2 ^ 52 + t) * 2 ^ x) (2 ^ 1074)
  pub subnormal : (s : Bool) (t : ℕ) → HasValue (of_fields binary64 s 0 t) s t (2 ^ 1074)
  pub zeros : (s : Bool) → of_fields binary64 s 0 0 ≡ fin s 0 (pos 0)
  pub infinite : (s : Bool) → of_fields binary64 s 2047 0 ≡ inf s
  pub not_a_number : (s : Bool) (t : ℕ) → of_fields binary64 s 2047 (suc t) ≡ nan
  -- the pattern of a value is one that means it, and only a not-a-number has more than one
  pub means : (x : Float) → T (fits binary64 x) → from_bits binary64 (pattern_of x) ≡ x
  pub only : (n : ℕ) (x : Float) → n < 2 ^ 64 → from_bits binary64 n ≡ x → (x ≢ nan) → n ≡ pattern_of x
  pub no_number : pattern_of nan ≡ 9221120237041090560
