-- Words of lowercase hexadecimal digits: bytes as pairs, and 64-bit patterns. Assumes nothing.
use Rattle.std.specs.Prelude.{ℕ, zero, suc, ◌+◌, ◌-◌, ◌/◌, ◌%◌, ◌^◌, cond, List, [], ◌∷◌, length, Some, None, Option, ◌==◌, nat_lt}
use Rattle.std.specs.List.{flat_map}
use Rattle.std.specs.Option.{option_map}
use Rattle.std.specs.Int.{is_in_range}
use Rattle.std.specs.Int.Digits.{number_from_digits}

-- the value of a digit, 0 to 9 or a to f
abbrev pub digit_of : ℕ → Option ℕ
digit_of c = cond (is_in_range 48 57 c) (Some (c - 48)) (cond (is_in_range 97 102 c) (Some (c - 97 + 10)) None)

-- the character of a digit
abbrev pub char_of : ℕ → ℕ
char_of d = cond (nat_lt d 10) (48 + d) (97 + (d - 10))

-- a number in front of others, where all are there
abbrev pub in_front : Option ℕ → Option (List ℕ) → Option (List ℕ)
in_front None xs = None
in_front (Some x) xs = option_map (λ ys. x ∷ ys) xs

-- the values of digits
abbrev pub digits_of : List ℕ → Option (List ℕ)
digits_of [] = Some []
digits_of (c ∷ cs) = in_front (digit_of c) (digits_of cs)

-- the number that digits spell, high digit first
abbrev pub number_of : List ℕ → Option ℕ
number_of cs = option_map (number_from_digits 16) (digits_of cs)

-- the bytes that pairs of digits spell
abbrev pub pairs_of : List ℕ → Option (List ℕ)
pairs_of [] = Some []
pairs_of (c ∷ []) = None
pairs_of (high ∷ low ∷ cs) = in_front (number_of (high ∷ low ∷ [])) (pairs_of cs)

-- the bytes of a word: one pair or more, or `-` for none
abbrev pub bytes_of : List ℕ → Option (List ℕ)
bytes_of [] = None
bytes_of (c ∷ []) = cond (c == 45) (Some []) None
bytes_of (high ∷ low ∷ cs) = pairs_of (high ∷ low ∷ cs)

-- the number of a word of exactly sixteen digits
abbrev pub pattern_of : List ℕ → Option ℕ
pattern_of cs = cond (length cs == 16) (number_of cs) None

-- the last k digits of n, high digit first
unfoldable pub numeral : ℕ → ℕ → List ℕ
numeral zero n = []
numeral (suc k) n = char_of (n / 16 ^ k % 16) ∷ numeral k n

-- the word of bytes
abbrev pub spelled : List ℕ → List ℕ
spelled [] = 45 ∷ []
spelled (b ∷ bs) = flat_map (numeral 2) (b ∷ bs)

-- the word of a pattern
abbrev pub pattern_spelled : ℕ → List ℕ
pattern_spelled n = numeral 16 n
