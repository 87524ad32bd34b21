-- Parts of a list of octets. Assumes nothing.
use Rattle.std.proofs.Common.{◌≡◌, ℕ, suc, ◌+◌, ◌<◌, ◌≤◌, List, [], ◌∷◌, ◌++◌, length, get_or, drop, sym, refl, ap, ◌∙◌, subst, inl, inr, arith, length-drop, length-take, drop-drop, take-add, w8, Fits}
use lib.Lanes.{Each1}
use Rattle.std.proofs.lemmas.Simd.{length-chunk, Each1-chunk}
use Rattle.std.proofs.lemmas.Bool.{cases_lt}
use Rattle.octets.specs.Octets.{value, octets, part}
use Rattle.octets.proofs.Spelling.{length-octets, octets-value}

-- octets are below 256
pub octets_fit : (bs : List ℕ) → ((i : ℕ) → Fits w8 (get_or bs i 0)) → Each1 (λ b. b < 256) bs
octets_fit [] f = tt
octets_fit (b ∷ bs) f = ((f 0).fits, octets_fit bs (λ i. f (suc i)))

-- where the list ends before its k octets, no number stands
pub not_there : (bs : List ℕ) (i k n : ℕ) → 0 < k → length bs < i + k → part i k bs ≡ octets k n → ⊥
not_there bs i k n p h e = omega (arith, length-octets k n, ap length e, length-take k (drop i bs), length-drop i bs)

-- what is there, read and written again
pub octets_back : (bs : List ℕ) (i k : ℕ) {n : ℕ} → Each1 (λ b. b < 256) bs → i + k ≤ length bs → n ≡ value (part i k bs) → part i k bs ≡ octets k n
octets_back bs i k e h same =
    let l = length-chunk i k bs h in
    sym (ap (octets k) same ∙ subst (λ m. octets m (value (part i k bs)) ≡ part i k bs) l (octets-value (part i k bs) (Each1-chunk (λ b. b < 256) i k bs e)))

-- a part is cut in two
pub cut : (bs : List ℕ) (i k m : ℕ) {p t : List ℕ} → part i k bs ≡ p → part (i + k) m bs ≡ t → part i (k + m) bs ≡ p ++ t
cut bs i k m e f = take-add k m (drop i bs) ∙ rw (e, drop-drop k i bs, f)

-- where no number of k octets is read, they are not all there
pub short : (bs : List ℕ) (i k : ℕ) → Each1 (λ b. b < 256) bs → ((n : ℕ) → part i k bs ≡ octets k n → ⊥) → length bs < i + k
short bs i k e none = elim (cases_lt (length bs) (i + k)) [ inl h ↦ h | inr h ↦ absurd (none (value (part i k bs)) (octets_back bs i k e h refl)) ]

-- what is read is there
pub there : (bs : List ℕ) (i k n : ℕ) → 0 < k → part i k bs ≡ octets k n → i + k ≤ length bs
there bs i k n p e = elim (cases_lt (length bs) (i + k)) [ inl h ↦ absurd (not_there bs i k n p h e) | inr h ↦ h ]
