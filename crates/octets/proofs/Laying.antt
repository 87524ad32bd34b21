-- Octets that are laid over a part. Assumes nothing.
use Rattle.std.proofs.Common.{◌≡◌, ℕ, ◌+◌, ◌≤◌, true, List, ◌++◌, length, take, drop, is_ok, Ok, Err, Result, sym, refl, ap, ◌∙◌, subst, append_assoc, add_assoc, arith, length-append, take_all, drop-drop}
use lib.Seq.{paste, take-paste, drop-paste}
use Rattle.answers.specs.Faults.{Fills}
use Rattle.answers.specs.declared.Fault.{Fault}
use Rattle.octets.specs.Octets.{Lays}

pub lays_as : {V : Type 0} {os ps : List ℕ} (at : ℕ) (before : List ℕ) (r : Result V Fault) (after : List ℕ) → os ≡ ps → Lays os at before r after → Lays ps at before r after
lays_as {V} at before r after e h = subst (λ (xs : List ℕ). Lays {V = V} xs at before r after) e h

-- octets that find room are laid
pub lays_ok : {V : Type 0} (os : List ℕ) (at : ℕ) (before : List ℕ) (r : Result V Fault) (after : List ℕ) → Lays os at before r after → at + length os ≤ length before → (is_ok r ≡ true) × (after ≡ paste before at os (length os))
lays_ok os at before (Ok v) after h fits = (refl, h.1)
lays_ok os at before (Err e) after h fits = absurd (omega (arith, h.0))

-- two parts that are laid one behind the other are laid as one
pub paste-paste : (d : List ℕ) (at : ℕ) (xs : List ℕ) (k : ℕ) (ys : List ℕ) (m : ℕ) → length xs ≡ k → length ys ≡ m → at + k ≤ length d → paste (paste d at xs k) (at + k) ys m ≡ paste d at (xs ++ ys) (k + m)
paste-paste d at xs k ys m lx ly fits =
    let front : take (at + k) (paste d at xs k) ≡ take at d ++ take k xs = take-paste d at xs k (omega arith) (omega arith) in
    let back : drop (at + k) (paste d at xs k) ≡ drop (at + k) d = drop-paste d at xs k (omega arith) (omega arith) in
    let rest : drop (at + k + m) (paste d at xs k) ≡ drop (at + k + m) d = sym (drop-drop m (at + k) (paste d at xs k)) ∙ ap (drop m) back ∙ drop-drop m (at + k) d in
    let all : take (k + m) (xs ++ ys) ≡ xs ++ ys = take_all (k + m) (xs ++ ys) (omega (arith, length-append xs ys)) in
    let tx : take k xs ≡ xs = take_all k xs (omega arith) in
    let ty : take m ys ≡ ys = take_all m ys (omega arith) in
    rw (front, rest, all, tx, ty, append_assoc (take at d) xs ys, add_assoc at k m)

-- a part that was filled
pub fills_ok : {V : Type 0} (os before : List ℕ) (r : Result V Fault) (after : List ℕ) → is_ok r ≡ true → length before ≡ length os → after ≡ os → Fills os before r after
fills_ok os before (Ok v) after o l e = (l, e)
fills_ok os before (Err f) after o l e = let z : ◌≡◌ {A = ℕ} 0 1 = cc in absurd (omega arith)
