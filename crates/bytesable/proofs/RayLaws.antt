-- What holds of the octets of a ray. Assumes nothing.
use Rattle.std.proofs.Common.{◌≡◌, ℕ, ◌^◌, ◌<◌, ◌&&◌, eqb, int_eq, List, ◌++◌, length, ℤ, Decides, sym, refl, ap, ◌∙◌, subst, arith, take_all, w64, SFits, to_z, of_z}
use Rattle.std.proofs.lemmas.Int.{ints, to_z-of_z}
use Rattle.std.proofs.lemmas.Bool.Decides.{Decides-like, Decides-and, Decides-eqb, Decides-int_eq}
use Rattle.octets.specs.Octets.{octets, part}
use Rattle.octets.proofs.Parts.{cut}
use Rattle.bytesable.specs.Fields.{head}
use Rattle.bytesable.proofs.Fielding.{same_content}
use Rattle.bytesable.specs.Rays.{ray_octets}
use Rattle.bytesable.specs.declared.ray.Ray.{Ray}

pub length-ray_octets : (r : Ray) → length (ray_octets r) ≡ 29
unfolding octets ray_octets
length-ray_octets r = refl

pub ruleset sizes = (length-ray_octets)

-- a field's octets, with its length written out
abbrev pub surface_of : Ray → List ℕ
surface_of r = head 1 4 ++ octets 4 r.surface

abbrev pub height_of : Ray → List ℕ
height_of r = head 2 8 ++ octets 8 (of_z w64 r.height)

abbrev pub path_of : Ray → List ℕ
path_of r = head 3 8 ++ octets 8 (of_z w64 r.path)

pub ray_octets_spelled : (r : Ray) → surface_of r ++ (height_of r ++ path_of r) ≡ ray_octets r
unfolding octets ray_octets
ray_octets_spelled r = refl

-- what stands at the places of a ray's octets
pub record RayParts (r : Ray) (bs : List ℕ) : Type 0 where
  pub surface : part 0 7 bs ≡ surface_of r
  pub height : part 7 11 bs ≡ height_of r
  pub path : part 18 11 bs ≡ path_of r

pub ray_parts : (r : Ray) (bs : List ℕ) → bs ≡ ray_octets r → RayParts r bs
unfolding octets ray_octets
ray_parts r bs e = subst (RayParts r) (sym e) (record { surface = refl; height = refl; path = refl })

pub ray_whole : (r : Ray) (bs : List ℕ) → length bs ≡ 29 → RayParts r bs → bs ≡ ray_octets r
ray_whole r bs l p = sym (take_all 29 bs (omega arith)) ∙ cut bs 0 7 22 p.surface (cut bs 7 11 11 p.height p.path) ∙ ray_octets_spelled r

-- each field fits its type
pub record RayFits (r : Ray) : Type 0 where
  pub surface : r.surface < 2 ^ 32
  pub height : SFits w64 r.height
  pub path : SFits w64 r.path

of_z-lt : (z : ℤ) → SFits w64 z → of_z w64 z < 256 ^ 8
of_z-lt z f = omega (arith, ints)

-- a signed number is told by its octets
of_z_same : (y z : ℤ) → SFits w64 y → SFits w64 z → of_z w64 y ≡ of_z w64 z → y ≡ z
of_z_same y z f g e = sym (to_z-of_z w64 y f) ∙ ap (to_z w64) e ∙ to_z-of_z w64 z g

-- two rays with the same fields have the same octets, and no others
pub ray_decides : (a b : Ray) → RayFits a → RayFits b → Decides (eqb a.surface b.surface && (int_eq a.height b.height && int_eq a.path b.path)) (ray_octets a ≡ ray_octets b)
ray_decides a b f g =
    Decides-like _
    (λ t. sym (ray_octets_spelled a) ∙ rw (t.0, t.1.0, t.1.1) (ray_octets_spelled b))
    (λ e.
    let p = ray_parts a (ray_octets b) (sym e) in
    let q = ray_parts b (ray_octets b) refl in
    let height = same_content 8 2 8 (of_z-lt _ f.height) (of_z-lt _ g.height) (sym p.height ∙ q.height) in
    let path = same_content 8 3 8 (of_z-lt _ f.path) (of_z-lt _ g.path) (sym p.path ∙ q.path) in
    (same_content 4 1 4 f.surface g.surface (sym p.surface ∙ q.surface), (of_z_same _ _ f.height g.height height, of_z_same _ _ f.path g.path path)))
    (Decides-and _ _ (Decides-eqb _ _) (Decides-and _ _ (Decides-int_eq _ _) (Decides-int_eq _ _)))

-- a signed number that a variable has held
pub held : (z : ℤ) (t s : ℕ) → SFits w64 z → head t s ++ octets 8 (of_z w64 z) ≡ head t s ++ octets 8 (of_z w64 (to_z w64 (of_z w64 z)))
held z t s f = ap (λ y. head t s ++ octets 8 (of_z w64 y)) (sym (to_z-of_z w64 z f))
