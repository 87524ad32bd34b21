-- The decimal numbers that a word may hold. Assumes nothing.
use Rattle.std.specs.Prelude.{ℕ, ◌+◌, ◌-◌, ◌*◌, ◌^◌, Bool, cond, ◌&&◌, List, [], ◌∷◌, length, ℤ, pos, neg_ℤ, Some, None, Option, ◌==◌, nat_le, nat_lt}
use Rattle.std.specs.Option.{option_map}
use Rattle.std.specs.Str.{all_ascii_digits}

-- the number that digits spell, high digit first
abbrev pub digits_value : List ℕ → ℕ
digits_value [] = 0
digits_value (c ∷ cs) = (c - 48) * 10 ^ length cs + digits_value cs

-- one or more digits, each 0 to 9, and nothing else
abbrev pub is_number : List ℕ → Bool
is_number cs = nat_lt 0 (length cs) && all_ascii_digits cs

-- a number that is at most `most`
abbrev pub unsigned_of : ℕ → List ℕ → Option ℕ
unsigned_of most cs = cond (is_number cs && nat_le (digits_value cs) most) (Some (digits_value cs)) None

-- a number behind an optional minus, from - 2 ^ 63 to 2 ^ 63 - 1
abbrev pub signed_of : List ℕ → Option ℤ
signed_of [] = None
signed_of (c ∷ cs) = cond (c == 45) (option_map (λ n. neg_ℤ (pos n)) (unsigned_of (2 ^ 63) cs)) (option_map pos (unsigned_of (2 ^ 63 - 1) (c ∷ cs)))
