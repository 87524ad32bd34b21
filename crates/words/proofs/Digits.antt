-- What holds of each hexadecimal digit, and of one more of them. Assumes nothing.
use Rattle.std.proofs.Common.{◌≡◌, ℕ, ◌+◌, ◌*◌, ◌^◌, ◌<◌, ◌≤◌, List, ◌∷◌, length, get_or, drop, Some, None, Option, refl, ap, ◌∙◌, pow-suc, add-one, arith}
use native.Mathlib.Nat.{pow-le-pow_right}
use Rattle.std.proofs.lemmas.List.{drop_more, drop_all}
use Rattle.std.proofs.lemmas.Bool.Decides.{nat_tests}
use Rattle.std.specs.Option.{option_map}
use Rattle.std.specs.Int.Digits.{number_from_digits_after}
use Rattle.words.specs.Hexadecimals.{digit_of, char_of, digits_of, in_front}

pub digit_lt : (c d : ℕ) → digit_of c ≡ Some d → d < 16
digit_lt c d e = grind (arith, nat_tests)

-- the character of a digit reads back as the digit
pub digit_back : (d : ℕ) → d < 16 → digit_of (char_of d) ≡ Some d
digit_back d small = grind (arith, nat_tests)

pub char_ascii : (d : ℕ) → d < 16 → char_of d < 128
char_ascii d small = grind (arith, nat_tests)

-- the number that digits spell behind those that spelled v
abbrev pub read_on : ℕ → List ℕ → Option ℕ
read_on v cs = option_map (number_from_digits_after 16 v) (digits_of cs)

read_front : (v d : ℕ) (rest : Option (List ℕ)) → option_map (number_from_digits_after 16 v) (in_front (Some d) rest) ≡ option_map (number_from_digits_after 16 (v * 16 + d)) rest
read_front v d None = refl
read_front v d (Some ds) = refl

-- one more digit
pub read_digit : (v c d : ℕ) (cs : List ℕ) → digit_of c ≡ Some d → read_on v (c ∷ cs) ≡ read_on (v * 16 + d) cs
read_digit v c d cs e = ap (λ o. option_map (number_from_digits_after 16 v) (in_front o (digits_of cs))) e ∙ read_front v d (digits_of cs)

-- the same, at a place in a list
pub read_more : (v d : ℕ) (cs : List ℕ) (i : ℕ) → i < length cs → digit_of (get_or cs i 0) ≡ Some d → read_on v (drop i cs) ≡ read_on (v * 16 + d) (drop (i + 1) cs)
read_more v d cs i l e = ap (read_on v) (drop_more cs i 0 l) ∙ read_digit v (get_or cs i 0) d (drop (i + 1) cs) e

pub read_stop : (v : ℕ) (cs : List ℕ) (i : ℕ) → i < length cs → digit_of (get_or cs i 0) ≡ None → read_on v (drop i cs) ≡ None
read_stop v cs i l e =
    ap (read_on v) (drop_more cs i 0 l) ∙ ap (λ o. option_map (number_from_digits_after 16 v) (in_front o (digits_of (drop (i + 1) cs)))) e

pub read_all : (v : ℕ) (cs : List ℕ) (i : ℕ) → length cs ≤ i → read_on v (drop i cs) ≡ Some v
read_all v cs i l = ap (read_on v) (drop_all i cs l)

-- a number of fewer than sixteen digits leaves room for one more
pub room : (v i : ℕ) → v < 16 ^ i → i < 16 → v < 16 ^ 15
room v i h short =
    let at_most : i ≤ 15 = omega arith in
    let top : 16 ^ i ≤ 16 ^ 15 = pow-le-pow_right (omega arith) at_most in
    omega arith

pub more_digits : (v d i : ℕ) → v < 16 ^ i → d < 16 → v * 16 + d < 16 ^ (i + 1)
more_digits v d i h low = rw (add-one, pow-suc 16 i) (omega arith)
