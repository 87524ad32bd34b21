-- Numbers spelled in digits, and read back. Assumes nothing.
use Rattle.std.proofs.Common.{◌≡◌, ℕ, zero, suc, ◌+◌, ◌-◌, ◌*◌, ◌/◌, ◌%◌, ◌^◌, ◌<◌, ◌≤◌, Bool, true, false, cond, eqb, List, [], ◌∷◌, ◌++◌, length, get_or, replicate, take, drop, pow-add, Some, sym, refl, ap, ◌∙◌, ⊎_elim, append_assoc, append-nil, add_assoc, mod-eq_of_lt, mul_assoc, add-mul, pow-suc, zero-add, zero-mul, arith, w8, Fits}
use Rattle.std.proofs.Math.Nat.{div-div-eq-div-mul, zero-div}
use Rattle.std.specs.Fmt.{digit_glyph, digits, digits_onto, format_spec, padded_integral, char_count, digits_output, styled_digits_output}
use native.Mathlib.Nat.{pow-succ'}
use lib.Arith.{mod-mul}
use Rattle.std.proofs.lemmas.Bool.{cases_eq, cases_lt, cond-true, eq-eqb, eqb-true, eqb-false, le-ltb, lt-ltb}
use Rattle.std.specs.List.{flat_map, AllByRecursion as All}
use Rattle.std.specs.Option.{option_map}
use Rattle.words.specs.Hexadecimals.{char_of, in_front, number_of, numeral, pairs_of, bytes_of, spelled, pattern_of, pattern_spelled}
use Rattle.std.proofs.lemmas.Str.{encode_ascii}
use Rattle.std.specs.Char.{encode_utf8}
use Rattle.words.proofs.Digits.{char_ascii, digit_back, read_on, read_digit}

pow_16 : (k : ℕ) → 2 ^ (4 * k) ≡ 16 ^ k
pow_16 zero = refl
pow_16 (suc k) =
    let four : 4 * suc k ≡ 4 * k + 4 = omega arith in
    ap (λ n. 2 ^ n) four ∙ pow-add 2 (4 * k) 4 ∙ ap (λ n. n * 16) (pow_16 k) ∙ sym (pow-suc 16 k)

-- the first of k digits, as a shift gives it
pub numeral_more : (k n : ℕ) → 0 < k → numeral k n ≡ char_of (n / 2 ^ (4 * (k - 1)) % 16) ∷ numeral (k - 1) n
unfolding numeral
numeral_more zero n some = absurd (omega arith)
numeral_more (suc k) n some =
    let less : k ≡ suc k - 1 = omega arith in
    ap (λ p. char_of (n / p % 16) ∷ numeral k n) (sym (pow_16 k)) ∙ ap (λ j. char_of (n / 2 ^ (4 * j) % 16) ∷ numeral j n) less

pub numeral_none : (k n : ℕ) → k ≤ 0 → numeral k n ≡ []
unfolding numeral
numeral_none zero n none = refl
numeral_none (suc k) n none = absurd (omega arith)

pub length-numeral : (k n : ℕ) → length (numeral k n) ≡ k
unfolding numeral
length-numeral zero n = refl
length-numeral (suc k) n = ap suc (length-numeral k n)

pow_16_pos : (k : ℕ) → 0 < 16 ^ k
pow_16_pos zero = omega arith
pow_16_pos (suc k) = rw (pow-suc 16 k) (omega (arith, pow_16_pos k))

-- the value v with one more digit and then k digits, and with k + 1 digits
one_digit_more : (v n k : ℕ) → (v * 16 + n / 16 ^ k % 16) * 16 ^ k + n % 16 ^ k ≡ v * 16 ^ suc k + n % 16 ^ suc k
one_digit_more v n k =
    let low = mod-mul n {m = 16} {c = 16 ^ k} (omega arith) (pow_16_pos k) in
    rw (pow-succ' 16 k, low, add-mul (v * 16) (n / 16 ^ k % 16) (16 ^ k), mul_assoc v 16 (16 ^ k), add_assoc (v * (16 * 16 ^ k)) (n / 16 ^ k % 16 * 16 ^ k) (n % 16 ^ k))

-- the last k digits of n, read behind the value v
read_numeral : (v k n : ℕ) → read_on v (numeral k n) ≡ Some (v * 16 ^ k + n % 16 ^ k)
unfolding numeral
read_numeral v zero n = ap Some (omega arith)
read_numeral v (suc k) n =
    let d = n / 16 ^ k % 16 in
    read_digit v (char_of d) d (numeral k n) (digit_back d (omega arith)) ∙ read_numeral (v * 16 + d) k n ∙ ap Some (one_digit_more v n k)

pub number_back : (k n : ℕ) → n < 16 ^ k → number_of (numeral k n) ≡ Some n
number_back k n small = read_numeral 0 k n ∙ ap Some (rw (mod-eq_of_lt small, zero-mul (16 ^ k), zero-add n))

-- what a pattern's word says is the pattern
pub pattern_back : (n : ℕ) → n < 2 ^ 64 → pattern_of (pattern_spelled n) ≡ Some n
pattern_back n small = cond-true _ _ _ (eq-eqb _ 16 (length-numeral 16 n)) ∙ number_back 16 n small

pairs_back : (bs : List ℕ) → All (λ b. b < 256) bs → pairs_of (flat_map (numeral 2) bs) ≡ Some bs
unfolding numeral
pairs_back [] small = refl
pairs_back (b ∷ bs) small =
    ap (λ o. in_front o (pairs_of (flat_map (numeral 2) bs))) (number_back 2 b small.0) ∙ ap (in_front (Some b)) (pairs_back bs small.1)

-- what the word of bytes says is those bytes
pub bytes_back : (bs : List ℕ) → All (λ b. b < 256) bs → bytes_of (spelled bs) ≡ Some bs
unfolding numeral
bytes_back [] small = refl
bytes_back (b ∷ bs) small = pairs_back (b ∷ bs) small

pub all_small : (bs : List ℕ) → ((i : ℕ) → Fits w8 (get_or bs i 0)) → All (λ b. b < 256) bs
all_small [] fits = tt
all_small (b ∷ bs) fits = ((fits 0).fits, all_small bs (λ i. fits (suc i)))

-- the word of one byte or more
pub spelled_some : (bs : List ℕ) → (length bs ≡ 0 → ⊥) → flat_map (numeral 2) bs ≡ spelled bs
spelled_some [] some = absurd (some refl)
spelled_some (b ∷ bs) some = refl

joined_at : (f : ℕ → List ℕ) (bs : List ℕ) (i : ℕ) → i < length bs → flat_map f (take i bs) ++ (f (get_or bs i 0) ++ flat_map f (drop (suc i) bs)) ≡ flat_map f bs
joined_at f [] i l = absurd (omega arith)
joined_at f (b ∷ bs) zero l = refl
joined_at f (b ∷ bs) (suc i) l =
    append_assoc (f b) (flat_map f (take i bs)) (f (get_or bs i 0) ++ flat_map f (drop (suc i) bs))
    ∙ ap (λ xs. f b ++ xs) (joined_at f bs i (omega arith))

-- a front of what the element at i gives makes a front of what all give
pub joined_front : (f : ℕ → List ℕ) (bs : List ℕ) (i : ℕ) (front rest : List ℕ) → i < length bs → front ++ rest ≡ f (get_or bs i 0) → (flat_map f (take i bs) ++ front) ++ (rest ++ flat_map f (drop (suc i) bs)) ≡ flat_map f bs
joined_front f bs i front rest l e =
    let before = flat_map f (take i bs) in
    let behind = flat_map f (drop (suc i) bs) in
    append_assoc before front (rest ++ behind)
    ∙ ap (λ xs. before ++ xs) (sym (append_assoc front rest behind) ∙ ap (λ xs. xs ++ behind) e)
    ∙ joined_at f bs i l

-- the character of a digit is the one that is printed
glyph : (d : ℕ) → digit_glyph false d ≡ char_of d
glyph d = ⊎_elim (λ low. rw (lt-ltb d 10 low) refl) (λ high. rw (le-ltb d 10 high) (omega arith)) (cases_lt d 10)

-- what a hole for digits writes in a width, with zeros in front
pub hole_shown : (width n : ℕ) (d : _) (s : _) → s ≡ format_spec 32 0 4 width (2 ^ 64 - 1) → digits_output d ≡ Some (digits 16 false n) → styled_digits_output d s ≡ Some (padded_integral (format_spec 32 0 4 width (2 ^ 64 - 1)) false [] (digits 16 false n))
hole_shown width n d s e h = ap (styled_digits_output d) e ∙ ap (option_map (padded_integral (format_spec 32 0 4 width (2 ^ 64 - 1)) false [])) h

-- the text of a digit's character
pub digit_text : (c d : ℕ) (text : List ℕ) → text ≡ encode_utf8 c → c ≡ char_of d → d < 16 → text ≡ char_of d ∷ []
digit_text c d text e is small = e ∙ encode_ascii c (omega (arith, is, char_ascii d small)) ∙ ap (λ x. x ∷ []) is

-- a byte, digit by digit
pub byte_digits : (n m : ℕ) (high low : List ℕ) → m ≡ n → n < 256 → high ≡ char_of (m / 16) ∷ [] → low ≡ char_of (m % 16) ∷ [] → high ++ low ≡ numeral 2 n
unfolding numeral
byte_digits n m high low e small h l =
    let first : m / 16 ≡ n / 16 % 16 = omega (arith, e) in
    let last : m % 16 ≡ n / 1 % 16 = omega (arith, e) in
    ap (λ xs. xs ++ low) h ∙ ap (λ xs. char_of (m / 16) ∷ xs) l ∙ ap (λ x. char_of x ∷ char_of (m % 16) ∷ []) first ∙ ap (λ x. char_of (n / 16 % 16) ∷ char_of x ∷ []) last

-- the last digit stands last
numeral_last : (k n : ℕ) → numeral (suc k) n ≡ numeral k (n / 16) ++ (char_of (n % 16) ∷ [])
unfolding numeral
numeral_last zero n = let e : n / 1 % 16 ≡ n % 16 = omega arith in ap (λ d. char_of d ∷ []) e
numeral_last (suc k) n =
    let e : n / 16 ^ suc k ≡ n / 16 / 16 ^ k = ap (λ p. n / p) (pow-succ' 16 k) ∙ sym (div-div-eq-div-mul n 16 (16 ^ k)) in
    ap (λ d. char_of (d % 16) ∷ numeral (suc k) n) e ∙ ap (λ xs. char_of (n / 16 / 16 ^ k % 16) ∷ xs) (numeral_last k n)

numeral_zero : (k : ℕ) → numeral k 0 ≡ replicate k 48
unfolding numeral
numeral_zero zero = refl
numeral_zero (suc k) = let e : 0 / 16 ^ k % 16 ≡ 0 = omega (arith, zero-div (16 ^ k)) in ap (λ d. char_of d ∷ numeral k 0) e ∙ ap (λ xs. 48 ∷ xs) (numeral_zero k)

-- digits in front of acc, and zeros in front of them, are as many digits as there is room for
abbrev Padded : ℕ → ℕ → List ℕ → List ℕ → Type 0
Padded k n acc ds = (zeros : ℕ) × (zeros + length ds ≡ k + length acc) × (replicate zeros 48 ++ ds ≡ numeral k n ++ acc)

padded_onto : (k m n : ℕ) (acc : List ℕ) → 0 < k → k ≤ m → n < 16 ^ k → Padded k n acc (digits_onto m 16 false n acc)
padded_onto zero m n acc some fits small = absurd (omega arith)
padded_onto (suc k) zero n acc some fits small = absurd (omega arith)
padded_onto (suc k) (suc m) n acc some fits small = by (eqb (n / 16) 0) refl (λ room below. padded_onto k m (n / 16) (digit_glyph false (n % 16) ∷ acc) room (omega arith) below)
  where
    g : ℕ
    g = digit_glyph false (n % 16)

    last : numeral (suc k) n ++ acc ≡ numeral k (n / 16) ++ (g ∷ acc)
    last = ap (λ xs. xs ++ acc) (numeral_last k n) ∙ append_assoc (numeral k (n / 16)) (char_of (n % 16) ∷ []) acc ∙ ap (λ d. numeral k (n / 16) ++ (d ∷ acc)) (sym (glyph (n % 16)))

    by : (b : Bool) → eqb (n / 16) 0 ≡ b → (0 < k → n / 16 < 16 ^ k → Padded k (n / 16) (g ∷ acc) (digits_onto m 16 false (n / 16) (g ∷ acc))) → Padded (suc k) n acc (cond (eqb (n / 16) 0) (g ∷ acc) (digits_onto m 16 false (n / 16) (g ∷ acc)))
    by true e more =
        let none : n / 16 ≡ 0 = eqb-true _ 0 e in
        rw e (k, omega arith, sym (last ∙ ap (λ q. numeral k q ++ (g ∷ acc)) none ∙ ap (λ xs. xs ++ (g ∷ acc)) (numeral_zero k)))
    by false e more =
        let left : n / 16 ≡ 0 → ⊥ = eqb-false _ 0 e in
        let below : n / 16 < 16 ^ k = omega (arith, rw (pow-suc 16 k) at small) in
        let room : 0 < k = ⊎_elim (λ none. absurd (left (let one : 16 ^ k ≡ 1 = ap (λ j. 16 ^ j) none in omega (arith, one, below)))) (λ p. omega (arith, p)) (cases_eq k 0) in
        let rest = more room below in
        rw e (rest.0, omega (arith, rest.1), rest.2 ∙ sym last)

-- a pattern as it is printed
pub pattern_shown : (n : ℕ) → n < 2 ^ 64 → padded_integral (format_spec 32 0 4 16 (2 ^ 64 - 1)) false [] (digits 16 false n) ≡ pattern_spelled n
unfolding padded_integral digits char_count
pattern_shown n small =
    let p = padded_onto 16 64 n [] (omega arith) (omega arith) (omega arith) in
    let zeros : 16 - length (digits 16 false n) - 0 - 0 ≡ p.0 = omega (arith, p.1) in
    ap (λ z. replicate z 48 ++ (digits 16 false n ++ [])) zeros ∙ ap (λ xs. replicate p.0 48 ++ xs) (append-nil (digits 16 false n)) ∙ p.2 ∙ append-nil (numeral 16 n)
