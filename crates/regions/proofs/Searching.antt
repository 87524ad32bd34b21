-- What is found by a search, and what is known where nothing is. Assumes nothing.
use Rattle.std.proofs.Common.{◌≡◌, ℕ, zero, suc, ◌+◌, ◌-◌, ◌<◌, ◌≤◌, min, Bool, true, false, cond, List, ◌++◌, Some, None, count_by, Option, sym, refl, ap, ◌∙◌, ⊎_elim, arith}
use Rattle.std.proofs.lemmas.List.Sums.{sum_by-cons}
use Rattle.std.specs.List.{find, range_with_len}
use Rattle.std.specs.Option.{option_or}
use Rattle.std.proofs.lemmas.List.Folds.{find-append}
use Rattle.std.proofs.lemmas.Bool.{cases_eq, cases_order, cond-false}
use Rattle.pieces.specs.Counts.{behind}

-- nothing found in two lists behind each other: nothing in either
none_of_two : (p : ℕ → Bool) (xs ys : List ℕ) → find p (xs ++ ys) ≡ None → (find p xs ≡ None) × (find p ys ≡ None)
none_of_two p xs ys e = neither (find p xs) (sym (find-append p xs ys) ∙ e)
  where
    neither : (q : Option ℕ) → option_or q (find p ys) ≡ None → (q ≡ None) × (find p ys ≡ None)
    neither None h = (refl, h)
    neither (Some x) h = cc h

-- no number of a rising run passes where none is found
none_of_run : (p : ℕ → Bool) (n a b : ℕ) → find p (range_with_len a n) ≡ None → a ≤ b → b < a + n → p b ≡ false
none_of_run p zero a b e low high = absurd (omega arith)
none_of_run p (suc n) a b e low high =
    here (p a) refl (λ f ne. none_of_run p n (a + 1) b f (omega arith) (omega arith)) e
  where
    here : (t : Bool) → p a ≡ t → (find p (range_with_len (a + 1) n) ≡ None → (b ≡ a → ⊥) → p b ≡ false) → cond t (Some a) (find p (range_with_len (a + 1) n)) ≡ None → p b ≡ false
    here true h rest f = cc f
    here false h rest f = ⊎_elim (λ (k : b ≡ a). ap p k ∙ h) (rest f) (cases_eq b a)

pub no_lower : (p : ℕ → Bool) (n b : ℕ) → find p (range_with_len 0 n) ≡ None → b < n → p b ≡ false
no_lower p n b e lt = none_of_run p n 0 b e (omega arith) (omega arith)

pub no_other : (p : ℕ → Bool) (own n b : ℕ) → find p (behind own n) ≡ None → b < n → (b ≡ own → ⊥) → p b ≡ false
no_other p own n b e lt apart =
    let t = none_of_two p (range_with_len (own + 1) (n - (own + 1))) (range_with_len 0 (min own n)) e in
    ⊎_elim (λ (h : b ≡ own). absurd (apart h))
    (⊎_elim
    (λ (below : b < own). none_of_run p (min own n) 0 b t.1 (omega arith) (omega arith))
    (λ (above : own < b). none_of_run p (n - (own + 1)) (own + 1) b t.0 (omega arith) (omega arith)))
    (cases_order b own)

-- a run in which none passes
none_counted : (p : ℕ → Bool) (n a : ℕ) → ((b : ℕ) → a ≤ b → b < a + n → p b ≡ false) → count_by p (range_with_len a n) ≡ 0
none_counted p zero a h = refl
none_counted p (suc n) a h =
    let here : cond {A = ℕ} (p a) 1 0 ≡ 0 = cond-false (p a) 1 0 (h a (omega arith) (omega arith)) in
    let behind = none_counted p n (a + 1) (λ b low high. h b (omega arith) (omega arith)) in
    omega (arith, sum_by-cons (λ x. cond (p x) 1 0) a (range_with_len (a + 1) n))

pub some_other : (p : ℕ → Bool) (own n : ℕ) → p own ≡ false → 1 ≤ count_by p (range_with_len 0 n) → find p (behind own n) ≡ None → ⊥
some_other p own n mine some e =
    let none = none_counted p n 0 (λ b low high. ⊎_elim (λ (h : b ≡ own). ap p h ∙ mine) (λ ne. no_other p own n b e (omega arith) ne) (cases_eq b own)) in
    omega arith
