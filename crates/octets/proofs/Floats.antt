-- The bit patterns of floats. Assumes nothing.
use Rattle.std.proofs.Common.{◌≡◌, ℕ, suc, ◌+◌, ◌*◌, ◌%◌, ◌^◌, ◌<◌, ◌≤◌, Bool, true, false, cond, not, T, eqb, ltb, ◌⊎◌, pos, sym, refl, ap, ◌∙◌, subst, inl, inr, mul-one, arith, le-ltb, lt-ltb, ne_eqb}
use lib.Ieee.{Float, nan, inf, fin, binary64, to_bits, of_bits, of_fields, odd, nan_bits, is_nan, fits}
use lib.Ieee.Bits.{of_bits-to_bits, to_bits-of_bits, nan_bits_is, nan_bits_above, to_bits-lt, of_bits-fits}
use lib.Ieee.Exact.{HasValue, odd_sign}
use Rattle.octets.specs.Patterns.{pattern_of}
use Rattle.octets.specs.Standard.{Standard}

-- a value of binary64 has its own pattern
pub pattern_of_lem : (x : Float) → T (fits binary64 x) → pattern_of x ≡ to_bits binary64 x
unfolding pattern_of
pattern_of_lem x f = taken (fits binary64 x) f
  where
    taken : (b : Bool) → T b → cond b (to_bits binary64 x) 9221120237041090560 ≡ to_bits binary64 x
    taken true t = refl
    taken false t = absurd t

nan_is : (x : Float) → is_nan x ≡ true → x ≡ nan
unfolding is_nan
nan_is nan h = refl
nan_is (inf s) h = let z : ◌≡◌ {A = ℕ} 0 1 = cc in absurd (omega arith)
nan_is (fin s m e) h = let z : ◌≡◌ {A = ℕ} 0 1 = cc in absurd (omega arith)

to_bits-nan : to_bits binary64 nan ≡ 9221120237041090560
unfolding to_bits
to_bits-nan = refl

pub pattern_nan : pattern_of nan ≡ 9221120237041090560
unfolding pattern_of to_bits fits
pattern_nan = refl

not_T : (b : Bool) → b ≡ false → T (not b)
not_T true h = let z : ◌≡◌ {A = ℕ} 0 1 = cc in absurd (omega arith)
not_T false h = tt

is_pattern : (n : ℕ) → nan_bits binary64 n ≡ ltb 9218868437227405312 (n % 9223372036854775808)
is_pattern n = nan_bits_above binary64 n

nan_of : (n : ℕ) → nan_bits binary64 n ≡ true → of_bits binary64 n ≡ nan
nan_of n e = nan_is _ (sym (nan_bits_is binary64 n) ∙ e)

plain_back : (n : ℕ) → n < 2 ^ 64 → nan_bits binary64 n ≡ false → to_bits binary64 (of_bits binary64 n) ≡ n
plain_back n h e = to_bits-of_bits binary64 n h (not_T _ (sym (nan_bits_is binary64 n) ∙ e))

-- what a pattern is: that of a value of binary64, or the written one of a not-a-number
pattern_ways : (x : Float) → (T (fits binary64 x) × (pattern_of x ≡ to_bits binary64 x)) ⊎ (pattern_of x ≡ 9221120237041090560)
unfolding pattern_of
pattern_ways x = way (fits binary64 x)
  where
    way : (b : Bool) → (T b × (cond b (to_bits binary64 x) 9221120237041090560 ≡ to_bits binary64 x)) ⊎ (cond b (to_bits binary64 x) 9221120237041090560 ≡ 9221120237041090560)
    way true = inl (tt, refl)
    way false = inr refl

pub pattern_lt : (x : Float) → pattern_of x < 2 ^ 64
pattern_lt x = below (pattern_ways x)
  where
    below : (T (fits binary64 x) × (pattern_of x ≡ to_bits binary64 x)) ⊎ (pattern_of x ≡ 9221120237041090560) → pattern_of x < 2 ^ 64
    below (inl w) = subst (λ n. n < 2 ^ 64) (sym w.1) (to_bits-lt binary64 x w.0)
    below (inr e) = omega arith

-- a pattern that is read is the pattern of the float that it means
pub taken_back : (n : ℕ) → n < 2 ^ 64 → ((9218868437227405312 < n % 9223372036854775808) × (n ≡ 9221120237041090560)) ⊎ (n % 9223372036854775808 ≤ 9218868437227405312) → pattern_of (of_bits binary64 n) ≡ n
taken_back n h w = pattern_of_lem (of_bits binary64 n) (of_bits-fits binary64 n) ∙ back w
  where
    back : ((9218868437227405312 < n % 9223372036854775808) × (n ≡ 9221120237041090560)) ⊎ (n % 9223372036854775808 ≤ 9218868437227405312) → to_bits binary64 (of_bits binary64 n) ≡ n
    back (inl w) = ap (to_bits binary64) (nan_of n (is_pattern n ∙ lt-ltb _ _ w.0)) ∙ to_bits-nan ∙ sym w.1
    back (inr w) = plain_back n h (is_pattern n ∙ le-ltb _ _ w)

-- no value has another pattern of a not-a-number
pub not_taken : (n : ℕ) (x : Float) → 9218868437227405312 < n % 9223372036854775808 → (n ≡ 9221120237041090560 → ⊥) → pattern_of x ≡ n → ⊥
not_taken n x a other p = way (pattern_ways x)
  where
    way : (T (fits binary64 x) × (pattern_of x ≡ to_bits binary64 x)) ⊎ (pattern_of x ≡ 9221120237041090560) → ⊥
    way (inr e) = other (sym p ∙ e)
    way (inl w) =
        let bits : to_bits binary64 x ≡ n = sym w.1 ∙ p in
        let none : x ≡ nan = sym (of_bits-to_bits binary64 x w.0) ∙ ap (of_bits binary64) bits ∙ nan_of n (is_pattern n ∙ lt-ltb _ _ a) in
        other (sym bits ∙ ap (to_bits binary64) none ∙ to_bits-nan)

-- the standard

normal_is : (s : Bool) (x t : ℕ) → x < 2046 → of_fields binary64 s (suc x) t ≡ odd 53 s (2 ^ 52 + t) x 1074
unfolding of_fields
normal_is s x t h =
    let e : eqb (suc x) 2047 ≡ false = ne_eqb (suc x) 2047 (λ p. omega arith) in
    ap (λ b. cond b (cond (eqb t 0) (inf s) nan) (odd 53 s (2 ^ 52 + t) x 1074)) e

sub_is : (s : Bool) (t : ℕ) → of_fields binary64 s 0 t ≡ odd 53 s t 0 1074
unfolding of_fields
sub_is s t = refl

zeros_are : (s : Bool) → of_fields binary64 s 0 0 ≡ fin s 0 (pos 0)
unfolding of_fields odd
zeros_are s = refl

no_number_is : (s : Bool) (t : ℕ) → of_fields binary64 s 2047 (suc t) ≡ nan
unfolding of_fields
no_number_is s t = ap (λ b. cond b (inf s) nan) (ne_eqb (suc t) 0 (λ p. omega arith))

inf_is : (s : Bool) → of_fields binary64 s 2047 0 ≡ inf s
unfolding of_fields
inf_is s = refl

by_bool : {P : Type 0} (b : Bool) → (b ≡ true → P) → (b ≡ false → P) → P
by_bool true p q = p refl
by_bool false p q = q refl

only_one : (n : ℕ) (x : Float) → n < 2 ^ 64 → of_bits binary64 n ≡ x → (x ≡ nan → ⊥) → n ≡ pattern_of x
only_one n x h e number =
    by_bool (nan_bits binary64 n)
    (λ t. absurd (number (sym e ∙ nan_of n t)))
    (λ f. sym (plain_back n h f) ∙ sym (pattern_of_lem (of_bits binary64 n) (of_bits-fits binary64 n)) ∙ ap pattern_of e)

pub standard : Standard
unfolding of_bits
standard =
    record {
      fields = λ n. refl;
      normal = λ s x t h. subst (λ v. HasValue v s ((2 ^ 52 + t) * 2 ^ x) (2 ^ 1074)) (sym (normal_is s x t h)) (odd_sign 53 s (2 ^ 52 + t) x 1074);
      subnormal = λ s t. subst (λ v. HasValue v s t (2 ^ 1074)) (sym (sub_is s t)) (subst (λ q. HasValue (odd 53 s t 0 1074) s q (2 ^ 1074)) (mul-one t) (odd_sign 53 s t 0 1074));
      zeros = zeros_are;
      infinite = inf_is;
      not_a_number = no_number_is;
      means = λ x f. ap (of_bits binary64) (pattern_of_lem x f) ∙ of_bits-to_bits binary64 x f;
      only = only_one;
      no_number = pattern_nan;
    }
