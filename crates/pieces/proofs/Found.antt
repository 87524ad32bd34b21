-- What is found is free, and a free buffer is one of the region's. Assumes nothing.
use Rattle.std.proofs.Common.{◌≡◌, ℕ, zero, suc, ◌-◌, ◌<◌, ◌≤◌, min, Bool, true, false, cond, not, List, [], ◌∷◌, length, get_or, Some, None, Option, MatchOption, sym, refl, ap, ◌∙◌, subst, ⊎_elim, arith}
use Rattle.std.specs.List.{AllWithin, HoldsAt, find, range_with_len, slice_get}
use Rattle.std.proofs.lemmas.Option.{slice_get_past}
use Rattle.std.proofs.lemmas.Bool.{and_parts, both_ways, cases_lt, cond-false, cond-true}
use Rattle.pieces.specs.Counts.{among, free, unleased}

passes_by : (p : ℕ → Bool) (x b : ℕ) (o : Option ℕ) → (o ≡ Some b → p b ≡ true) → (t : Bool) → p x ≡ t → cond t (Some x) o ≡ Some b → p b ≡ true
passes_by p x b o rest true e f = let h : x ≡ b = cc in subst (λ y. p y ≡ true) h e
passes_by p x b o rest false e f = rest f

-- the first that passes does
pub passes : (p : ℕ → Bool) (xs : List ℕ) (b : ℕ) → find p xs ≡ Some b → p b ≡ true
passes p [] b e = cc e
passes p (x ∷ xs) b e = passes_by p x b (find p xs) (passes p xs b) (p x) refl e

-- a free buffer is one of the region's
pub known : (cs : List ℕ) (ws : List (Option ℕ)) (b : ℕ) → free cs ws b ≡ true → b < length cs
known cs ws b h =
    ⊎_elim (λ (lt : b < length cs). lt)
    (λ (le : length cs ≤ b). absurd (both_ways (unleased (slice_get cs b)) (ap unleased (slice_get_past cs b le)) (and_parts (unleased (slice_get cs b)) (not (among b ws)) h).0))
    (cases_lt b (length cs))

-- a run that begins behind its end is empty, wherever it begins
pub range_capped : (a b m : ℕ) → b ≤ m → range_with_len (min a m) (b - min a m) ≡ range_with_len a (b - a)
range_capped a b m le =
    ⊎_elim
    (λ (lt : a < m). let e : min a m ≡ a = omega arith in ap (λ k. range_with_len k (b - k)) e)
    (λ (ge : m ≤ a).
    let e : b - min a m ≡ 0 = omega arith in
    let f : 0 ≡ b - a = omega arith in
    ap (range_with_len (min a m)) e ∙ ap (range_with_len a) f)
    (cases_lt a m)

-- what is found, where none before it passes, is the first of a list
none_found : (p : ℕ → Bool) (xs : List ℕ) → AllWithin (λ x. p x ≡ false) xs 0 (length xs) → find p xs ≡ None
none_found p [] h = refl
none_found p (x ∷ xs) h =
    cond-false (p x) (Some x) (find p xs) (h 0 x (omega arith) (omega arith))
    ∙ none_found p xs (λ k d low high. h (suc k) d (omega arith) (omega arith))

found_at : (p : ℕ → Bool) (xs : List ℕ) (i x : ℕ) → p x ≡ true → i < length xs → get_or xs i x ≡ x → AllWithin (λ y. p y ≡ false) xs 0 i → find p xs ≡ Some x
found_at p [] i x holds lt at before = absurd (omega arith)
found_at p (y ∷ ys) zero x holds lt at before = cond-true (p y) (Some y) (find p ys) (ap p at ∙ holds) ∙ ap Some at
found_at p (y ∷ ys) (suc i) x holds lt at before =
    cond-false (p y) (Some y) (find p ys) (before 0 y (omega arith) (omega arith))
    ∙ found_at p ys i x holds (omega arith) at (λ k d low high. before (suc k) d (omega arith) (omega arith))

pub first_found : (p : ℕ → Bool) (xs : List ℕ) (r : Option ℕ)
    → MatchOption r (AllWithin (λ x. p x ≡ false) xs 0 (length xs))
    (λ x. (p x ≡ true) × (i : ℕ) × (i < length xs) × HoldsAt (λ y. y ≡ x) xs i × AllWithin (λ y. p y ≡ false) xs 0 i)
    → r ≡ find p xs
first_found p xs None h = sym (none_found p xs h)
first_found p xs (Some x) h = sym (found_at p xs h.1 x h.0 h.2 (h.3 x) h.4)
