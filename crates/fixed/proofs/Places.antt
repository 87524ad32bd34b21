-- The first n places of a list: where they end, and what is left when one is taken out. Assumes nothing.
use Rattle.std.proofs.Common.{◌≡◌, ℕ, suc, ◌+◌, ◌-◌, ◌<◌, ◌≤◌, List, ◌++◌, length, take, drop, set, Some, None, sym, ap, ◌∙◌, ap₂, ⊎_elim, arith}
use Rattle.std.proofs.Math.Seq.{paste}
use Rattle.std.specs.List.{slice_get, remove}
use Rattle.std.proofs.lemmas.List.{append-nil, drop_all, drop-take, length-drop, length-take-le, set_past, take_all, take-take}
use Rattle.std.proofs.lemmas.List.Edits.{take-paste}
use Rattle.std.proofs.lemmas.Option.{slice_get_cases, slice_get_within}

module _ {X : Type 0} (xs : List X) (n i : ℕ) (fits : n ≤ length xs) where
  pub inside : (x : X) → Some x ≡ slice_get (take n xs) i → i < n
  inside x e = omega (arith, slice_get_within (take n xs) i x (sym e), length-take-le n xs fits)

  outside : None ≡ slice_get (take n xs) i → length (take n xs) ≤ i
  outside e = ⊎_elim (λ p. absurd (let z = e ∙ p.2 in cc)) (λ p. p.0) (slice_get_cases (take n xs) i).1

  pub set_outside : (y : X) → None ≡ slice_get (take n xs) i → set (take n xs) i y ≡ take n xs
  set_outside y e = set_past (take n xs) i y (outside e)

  pub removed_outside : None ≡ slice_get (take n xs) i → remove (take n xs) i ≡ take n xs
  removed_outside e =
      let past = outside e in
      ap₂ ◌++◌ (take_all i (take n xs) past) (drop_all (suc i) (take n xs) (omega arith)) ∙ append-nil (take n xs)

  -- those behind i moved up by one place
  pub removed_inside : i < n → take (n - 1) (paste xs i (drop (i + 1) xs) (n - (i + 1))) ≡ remove (take n xs) i
  removed_inside lt =
      let m = n - (i + 1) in
      let a : i + m ≡ n - 1 = omega arith in
      let b : suc i + m ≡ n = omega arith in
      let c : i + 1 ≡ suc i = omega arith in
      let rest : m ≤ length (drop (i + 1) xs) = omega (arith, length-drop (i + 1) xs) in
      ap (λ k. take k (paste xs i (drop (i + 1) xs) m)) (sym a)
      ∙ take-paste xs i (drop (i + 1) xs) m (omega arith) rest
      ∙ ap₂ ◌++◌ (sym (take-take i n xs (omega arith))) (ap (λ k. take m (drop k xs)) c ∙ sym (drop-take (suc i) m xs) ∙ ap (λ k. drop (suc i) (take k xs)) b)
