-- The two readings of octets are inverse, and they are what the standard library computes. Assumes nothing.
use Rattle.std.proofs.Common.{◌≡◌, ℕ, zero, suc, ◌+◌, ◌*◌, ◌/◌, ◌%◌, ◌^◌, ◌<◌, List, [], ◌∷◌, length, get_or, sym, refl, ap, ◌∙◌, mod-eq_of_lt, mul_assoc, mul_comm, pow-suc, div-one, arith}
use native.Mathlib.Nat.{mod-one, pow-succ', mul-add-div_right, mul-add-mod_self_right}
use lib.Arith.{mod-mul, digits_div, digits_lt}
use lib.Lanes.{Each1}
use Rattle.octets.specs.Octets.{value, octets}

pub length-octets : (k n : ℕ) → length (octets k n) ≡ k
unfolding octets
length-octets zero n = refl
length-octets (suc k) n = ap suc (length-octets k n)

pub octets_8 : (n : ℕ) → (n / 72057594037927936 % 256) ∷ (n / 281474976710656 % 256) ∷ (n / 1099511627776 % 256) ∷ (n / 4294967296 % 256) ∷ (n / 16777216 % 256) ∷ (n / 65536 % 256) ∷ (n / 256 % 256) ∷ (n % 256) ∷ [] ≡ octets 8 n
unfolding octets
octets_8 n = rw (div-one n)

pub octets_4 : (n : ℕ) → (n / 16777216 % 256) ∷ (n / 65536 % 256) ∷ (n / 256 % 256) ∷ (n % 256) ∷ [] ≡ octets 4 n
unfolding octets
octets_4 n = rw (div-one n)

pub ruleset spelled = (octets_4, octets_8)

pub value_8 : (xs : List ℕ) → length xs ≡ 8 → get_or xs 0 0 * 72057594037927936 + get_or xs 1 0 * 281474976710656 + get_or xs 2 0 * 1099511627776 + get_or xs 3 0 * 4294967296 + get_or xs 4 0 * 16777216 + get_or xs 5 0 * 65536 + get_or xs 6 0 * 256 + get_or xs 7 0 ≡ value xs
unfolding value
value_8 [] e = omega arith
value_8 (a ∷ []) e = omega arith
value_8 (a ∷ b ∷ []) e = omega arith
value_8 (a ∷ b ∷ c ∷ []) e = omega arith
value_8 (a ∷ b ∷ c ∷ d ∷ []) e = omega arith
value_8 (a ∷ b ∷ c ∷ d ∷ f ∷ []) e = omega arith
value_8 (a ∷ b ∷ c ∷ d ∷ f ∷ g ∷ []) e = omega arith
value_8 (a ∷ b ∷ c ∷ d ∷ f ∷ g ∷ h ∷ []) e = omega arith
value_8 (a ∷ b ∷ c ∷ d ∷ f ∷ g ∷ h ∷ i ∷ []) e = omega arith
value_8 (a ∷ b ∷ c ∷ d ∷ f ∷ g ∷ h ∷ i ∷ j ∷ xs) e = omega arith

pub value_4 : (xs : List ℕ) → length xs ≡ 4 → get_or xs 0 0 * 16777216 + get_or xs 1 0 * 65536 + get_or xs 2 0 * 256 + get_or xs 3 0 ≡ value xs
unfolding value
value_4 [] e = omega arith
value_4 (a ∷ []) e = omega arith
value_4 (a ∷ b ∷ []) e = omega arith
value_4 (a ∷ b ∷ c ∷ []) e = omega arith
value_4 (a ∷ b ∷ c ∷ d ∷ []) e = omega arith
value_4 (a ∷ b ∷ c ∷ d ∷ f ∷ xs) e = omega arith

pos_256 : (k : ℕ) → 0 < 256 ^ k
pos_256 zero = omega arith
pos_256 (suc k) = rw pow-suc (omega (arith, pos_256 k))

-- reading what was written gives the number's last octets
pub value-octets : (k n : ℕ) → value (octets k n) ≡ n % 256 ^ k
unfolding value octets
value-octets zero n = sym (mod-one n)
value-octets (suc k) n =
    rw (length-octets k n, value-octets k n, pow-suc, mul_comm (256 ^ k) 256)
    (sym (mod-mul n (omega arith) (pos_256 k)))

pub value_lt : (xs : List ℕ) → Each1 (λ x. x < 256) xs → value xs < 256 ^ length xs
unfolding value
value_lt [] e = omega arith
value_lt (x ∷ xs) e = rw (pow-suc, mul_comm (256 ^ length xs) 256) (digits_lt e.0 (value_lt xs e.1))

-- octets above the last k do not count
octets_above : (k q r : ℕ) → octets k (q * 256 ^ k + r) ≡ octets k r
unfolding octets
octets_above zero q r = refl
octets_above (suc k) q r =
    rw (pow-succ' 256 k, ← mul_assoc q 256 (256 ^ k), mul-add-div_right (pos_256 k) (q * 256) r, mul-add-mod_self_right q 256 (r / 256 ^ k), octets_above k (q * 256) r)

-- writing what was read gives the octets
pub octets-value : (xs : List ℕ) → Each1 (λ x. x < 256) xs → octets (length xs) (value xs) ≡ xs
unfolding value octets
octets-value [] e = refl
octets-value (x ∷ xs) e =
    rw (digits_div x (value_lt xs e.1), mod-eq_of_lt e.0, octets_above (length xs) x (value xs), octets-value xs e.1)

-- a number of k octets, written and read
pub value_back : (k n : ℕ) → n < 256 ^ k → value (octets k n) ≡ n
value_back k n h = value-octets k n ∙ mod-eq_of_lt h

-- octets tell their number
pub octets_same : (k : ℕ) {m n : ℕ} → m < 256 ^ k → n < 256 ^ k → octets k m ≡ octets k n → m ≡ n
octets_same k {m} {n} f g e = sym (value_back k m f) ∙ ap value e ∙ value_back k n g
