-- What holds of the octets of a tweak. Assumes nothing.
use Rattle.std.proofs.Common.{◌≡◌, ℕ, ◌≤◌, Bool, true, false, ◌&&◌, List, ◌++◌, length, get_or, drop, Decides, Some, None, Option, Result, sym, refl, ap, ◌∙◌, subst, arith, take_all, ◌⊎◌, inl, inr}
use lib.Ieee.{Float}
use Rattle.std.proofs.lemmas.Bool.{both_ways}
use Rattle.std.proofs.lemmas.Bool.Decides.{Decides-like, Decides-and}
use Rattle.std.specs.Option.{option_map, option_or}
use Rattle.answers.specs.Faults.{Fills}
use Rattle.answers.specs.declared.Fault.{Fault}
use Rattle.octets.specs.Octets.{octets, part, Reads}
use Rattle.octets.proofs.Parts.{cut}
use Rattle.bytesable.specs.Fields.{head}
use Rattle.octets.proofs.Spelling.{length-octets}
use Rattle.bytesable.specs.Tweaks.{double, tweak_octets}
use Rattle.bytesable.specs.declared.tweak.Tweak.{Tweak}
use Rattle.bytesable.specs.declared.tweak.Tweak.TheVariants.{Thickness, Tilt, Index}

abbrev pub size_of : Tweak → ℕ
size_of (Thickness x) = 11
size_of (Tilt x y) = 19
size_of (Index x) = 11

abbrev tag_of : Tweak → ℕ
tag_of (Thickness x) = 16
tag_of (Tilt x y) = 17
tag_of (Index x) = 18

pub length-tweak_octets : (t : Tweak) → length (tweak_octets t) ≡ size_of t
unfolding octets tweak_octets
length-tweak_octets (Thickness x) = refl
length-tweak_octets (Tilt x y) = refl
length-tweak_octets (Index x) = refl

-- a tweak of one float
pub length-single : (t : Tweak) → ((x : Float) × (t ≡ Thickness x)) ⊎ ((x : Float) × (t ≡ Index x)) → 11 ≡ length (tweak_octets t)
length-single t (inl p) = sym (length-tweak_octets t ∙ ap size_of p.1)
length-single t (inr p) = sym (length-tweak_octets t ∙ ap size_of p.1)

pub ruleset sizes = (length-tweak_octets, length-single, length-octets)

first_octet : (t : Tweak) → get_or (tweak_octets t) 0 0 ≡ tag_of t
unfolding octets tweak_octets
first_octet (Thickness x) = refl
first_octet (Tilt x y) = refl
first_octet (Index x) = refl

-- the octets, with the field's length written out
pub thickness_spelled : (x : Float) → head 16 8 ++ double x ≡ tweak_octets (Thickness x)
unfolding octets tweak_octets
thickness_spelled x = refl

pub index_spelled : (x : Float) → head 18 8 ++ double x ≡ tweak_octets (Index x)
unfolding octets tweak_octets
index_spelled x = refl

pub tilt_spelled : (x y : Float) → (head 17 16 ++ double x) ++ double y ≡ tweak_octets (Tilt x y)
unfolding octets tweak_octets
tilt_spelled x y = refl

-- reading

all_of : (bs : List ℕ) (n : ℕ) → length bs ≡ n → part 0 n bs ≡ bs
all_of bs n l = take_all n bs (omega arith)

pub reads_single : (bs : List ℕ) {os ps : List ℕ} → length bs ≡ 11 → part 0 11 bs ≡ os → os ≡ ps → bs ≡ ps
reads_single bs l e spelled = sym (all_of bs 11 l) ∙ e ∙ spelled

pub no_single : (bs : List ℕ) → length bs ≡ 11 → ((x : Float) → part 0 11 bs ≡ head 16 8 ++ double x → ⊥) → ((x : Float) → part 0 11 bs ≡ head 18 8 ++ double x → ⊥) → (t : Tweak) → bs ≡ tweak_octets t → ⊥
no_single bs l p q (Thickness x) e = p x (all_of bs 11 l ∙ e ∙ sym (thickness_spelled x))
no_single bs l p q (Index x) e = q x (all_of bs 11 l ∙ e ∙ sym (index_spelled x))
no_single bs l p q (Tilt x y) e = omega (arith, ap length e, length-tweak_octets (Tilt x y))

-- a tweak of one float is read as the one or as the other
pub single_or : (bs : List ℕ) (r s : Option Float) (t : Option Tweak) → length bs ≡ 11 → Reads (λ x. head 16 8 ++ double x) (part 0 11 bs) r → Reads (λ x. head 18 8 ++ double x) (part 0 11 bs) s
    → t ≡ option_or (option_map Thickness r) (option_map Index s) → Reads tweak_octets bs t
single_or bs None None t l p q e = rw e (no_single bs l p q)
single_or bs None (Some x) t l p q e = rw e (reads_single bs l q (index_spelled x))
single_or bs (Some x) s t l p q e = rw e (reads_single bs l p (thickness_spelled x))

-- what stands at the places of a tilt's octets
pub tilt_first : (bs : List ℕ) (x y : Float) → bs ≡ tweak_octets (Tilt x y) → part 0 11 bs ≡ head 17 16 ++ double x
unfolding octets tweak_octets
tilt_first bs x y e = subst (λ l. part 0 11 l ≡ head 17 16 ++ double x) (sym e) refl

pub tilt_second : (bs : List ℕ) (x y : Float) → bs ≡ tweak_octets (Tilt x y) → part 11 8 bs ≡ double y
unfolding octets tweak_octets
tilt_second bs x y e = subst (λ l. part 11 8 l ≡ double y) (sym e) refl

pub reads_tilt : (bs : List ℕ) (x y : Float) → length bs ≡ 19 → part 0 11 bs ≡ head 17 16 ++ double x → part 11 8 bs ≡ double y → bs ≡ tweak_octets (Tilt x y)
reads_tilt bs x y l p q = sym (all_of bs 19 l) ∙ cut bs 0 11 8 p q ∙ tilt_spelled x y

pub no_tilt : (bs : List ℕ) → length bs ≡ 19 → ((x y : Float) → bs ≡ tweak_octets (Tilt x y) → ⊥) → (t : Tweak) → bs ≡ tweak_octets t → ⊥
no_tilt bs l p (Tilt x y) e = p x y e
no_tilt bs l p (Thickness x) e = omega (arith, ap length e, length-tweak_octets (Thickness x))
no_tilt bs l p (Index x) e = omega (arith, ap length e, length-tweak_octets (Index x))

pub no_length : (bs : List ℕ) → (length bs ≡ 11 → ⊥) → (length bs ≡ 19 → ⊥) → (t : Tweak) → bs ≡ tweak_octets t → ⊥
no_length bs p q (Thickness x) e = p (ap length e ∙ length-tweak_octets (Thickness x))
no_length bs p q (Tilt x y) e = q (ap length e ∙ length-tweak_octets (Tilt x y))
no_length bs p q (Index x) e = p (ap length e ∙ length-tweak_octets (Index x))

-- comparing

same_tag : (s t : Tweak) → tweak_octets s ≡ tweak_octets t → tag_of s ≡ tag_of t
same_tag s t e = sym (first_octet s) ∙ ap (λ l. get_or l 0 0) e ∙ first_octet t

content : (s t : ℕ) (os ps : List ℕ) → head s t ++ os ≡ head s t ++ ps → os ≡ ps
content s t os ps e = ap (drop 3) e

-- tweaks of one float, with one tag
pub decides_single : (r : Bool) (tag : ℕ) (s t : Tweak) (a b : Float) → head tag 8 ++ double a ≡ tweak_octets s → head tag 8 ++ double b ≡ tweak_octets t → Decides r (double a ≡ double b) → Decides r (tweak_octets s ≡ tweak_octets t)
decides_single r tag s t a b p q =
    Decides-like r
    (λ e. sym p ∙ ap (λ l. head tag 8 ++ l) e ∙ q)
    (λ e. content tag 8 (double a) (double b) (p ∙ e ∙ sym q))

pub decides_tilt : (r s : Bool) (a b c d : Float) → Decides r (double a ≡ double c) → Decides s (double b ≡ double d) → Decides (r && s) (tweak_octets (Tilt a b) ≡ tweak_octets (Tilt c d))
decides_tilt r s a b c d p q =
    Decides-like (r && s)
    (λ t. sym (tilt_spelled a b) ∙ ap (λ l. (head 17 16 ++ l) ++ double b) t.0 ∙ ap (λ l. (head 17 16 ++ double c) ++ l) t.1 ∙ tilt_spelled c d)
    (λ e. (content 17 16 (double a) (double c) (sym (tilt_first (tweak_octets (Tilt a b)) a b refl) ∙ tilt_first (tweak_octets (Tilt a b)) c d e), sym (tilt_second (tweak_octets (Tilt a b)) a b refl) ∙ tilt_second (tweak_octets (Tilt a b)) c d e))
    (Decides-and r s p q)

pub decides_not_tilt : (r : Bool) (a b c d : Float) → r ≡ false → Decides r (double a ≡ double c) → Decides r (tweak_octets (Tilt a b) ≡ tweak_octets (Tilt c d))
decides_not_tilt r a b c d f p =
    (λ t. absurd (both_ways r f t), λ e. p.1 (content 17 16 (double a) (double c) (sym (tilt_first (tweak_octets (Tilt a b)) a b refl) ∙ tilt_first (tweak_octets (Tilt a b)) c d e)))

apart : (s t : Tweak) → (tag_of s ≡ tag_of t → ⊥) → Decides false (tweak_octets s ≡ tweak_octets t)
apart s t differ = (λ e. absurd (both_ways true (sym e) refl), λ e. absurd (differ (same_tag s t e)))

pub apart_thickness : (x : Float) (t : Tweak) → ((y : Float) → t ≡ Thickness y → ⊥) → Decides false (tweak_octets (Thickness x) ≡ tweak_octets t)
apart_thickness x (Thickness y) other = absurd (other y refl)
apart_thickness x (Tilt y z) other = apart (Thickness x) (Tilt y z) (λ e. omega arith)
apart_thickness x (Index y) other = apart (Thickness x) (Index y) (λ e. omega arith)

pub apart_tilt : (x y : Float) (t : Tweak) → ((u v : Float) → t ≡ Tilt u v → ⊥) → Decides false (tweak_octets (Tilt x y) ≡ tweak_octets t)
apart_tilt x y (Thickness u) other = apart (Tilt x y) (Thickness u) (λ e. omega arith)
apart_tilt x y (Tilt u v) other = absurd (other u v refl)
apart_tilt x y (Index u) other = apart (Tilt x y) (Index u) (λ e. omega arith)

pub apart_index : (x : Float) (t : Tweak) → ((y : Float) → t ≡ Index y → ⊥) → Decides false (tweak_octets (Index x) ≡ tweak_octets t)
apart_index x (Thickness y) other = apart (Index x) (Thickness y) (λ e. omega arith)
apart_index x (Tilt y z) other = apart (Index x) (Tilt y z) (λ e. omega arith)
apart_index x (Index y) other = absurd (other y refl)

-- tweaks that are known by their variants
pub decides_as : (r : Bool) {s u t v : Tweak} → s ≡ u → t ≡ v → Decides r (tweak_octets u ≡ tweak_octets v) → Decides r (tweak_octets s ≡ tweak_octets t)
decides_as r e f d = Decides-like r (λ h. ap tweak_octets e ∙ h ∙ ap tweak_octets (sym f)) (λ h. ap tweak_octets (sym e) ∙ h ∙ ap tweak_octets f) d

-- a part that is filled with octets is filled with all that they are
pub fills_as : {V : Type 0} {os ps : List ℕ} (before : List ℕ) (r : Result V Fault) (after : List ℕ) → os ≡ ps → Fills os before r after → Fills ps before r after
fills_as {V} before r after e h = subst (λ (xs : List ℕ). Fills {V = V} xs before r after) e h

pub size_most : (t : Tweak) → size_of t ≤ 19
size_most (Thickness x) = omega arith
size_most (Tilt x y) = omega arith
size_most (Index x) = omega arith
