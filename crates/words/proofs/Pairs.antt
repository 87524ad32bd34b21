-- Pairs of digits: one more pair, and a digit that is left over. Assumes nothing.
use Rattle.std.proofs.Common.{◌≡◌, ℕ, zero, suc, get_or, ◌+◌, ◌*◌, ◌%◌, ◌≤◌, List, [], ◌∷◌, ◌++◌, length, take, drop, Some, None, Option, sym, refl, ap, ◌∙◌, append_assoc, arith, length-drop}
use Rattle.std.proofs.lemmas.List.{drop-drop}
use Rattle.std.proofs.lemmas.Bool.{cond-false, ne_eqb}
use Rattle.std.specs.Option.{option_map}
use Rattle.words.specs.Hexadecimals.{in_front, number_of, pairs_of, bytes_of}

front_none : (o : Option ℕ) → in_front o None ≡ None
front_none None = refl
front_none (Some x) = refl

pub pairs_odd : (cs : List ℕ) → (length cs % 2 ≡ 0 → ⊥) → pairs_of cs ≡ None
pairs_odd [] odd = absurd (odd refl)
pairs_odd (c ∷ []) odd = refl
pairs_odd (high ∷ low ∷ cs) odd =
    ap (in_front (number_of (high ∷ low ∷ []))) (pairs_odd cs (λ even. odd (omega arith))) ∙ front_none _

first_pair : (cs : List ℕ) → 2 ≤ length cs → pairs_of cs ≡ in_front (number_of (take 2 cs)) (pairs_of (drop 2 cs))
first_pair [] l = absurd (omega arith)
first_pair (c ∷ []) l = absurd (omega arith)
first_pair (high ∷ low ∷ cs) l = refl

-- the two at i
two_at : (cs : List ℕ) (i : ℕ) → i + 2 ≤ length cs → take 2 (drop i cs) ≡ get_or cs i 0 ∷ get_or cs (i + 1) 0 ∷ []
two_at [] i l = absurd (omega arith)
two_at (c ∷ []) i l = absurd (omega arith)
two_at (high ∷ low ∷ cs) zero l = refl
two_at (c ∷ d ∷ cs) (suc i) l =
    let next : suc (i + 1) ≡ suc i + 1 = omega arith in
    two_at (d ∷ cs) i (omega arith) ∙ ap (λ k. get_or (d ∷ cs) i 0 ∷ get_or (c ∷ d ∷ cs) k 0 ∷ []) next

-- the pair at i, and what is left behind it
pub pair_at : (cs : List ℕ) (i : ℕ) → 2 * i + 2 ≤ length cs → pairs_of (drop (2 * i) cs) ≡ in_front (number_of (get_or cs (2 * i) 0 ∷ get_or cs (2 * i + 1) 0 ∷ [])) (pairs_of (drop (2 * (i + 1)) cs))
pair_at cs i l =
    let next : 2 * i + 2 ≡ 2 * (i + 1) = omega arith in
    first_pair (drop (2 * i) cs) (omega (arith, length-drop (2 * i) cs))
    ∙ ap (λ xs. in_front (number_of xs) (pairs_of (drop 2 (drop (2 * i) cs)))) (two_at cs (2 * i) l)
    ∙ ap (λ xs. in_front (number_of (get_or cs (2 * i) 0 ∷ get_or cs (2 * i + 1) 0 ∷ [])) (pairs_of xs)) (drop-drop 2 (2 * i) cs ∙ ap (λ n. drop n cs) next)

-- a byte goes from the front of what is left to the end of those before it
pub mapped_more : (xs : List ℕ) (b : ℕ) (o : Option (List ℕ)) → option_map (λ bs. (xs ++ b ∷ []) ++ bs) o ≡ option_map (λ bs. xs ++ bs) (in_front (Some b) o)
mapped_more xs b None = refl
mapped_more xs b (Some bs) = ap Some (append_assoc xs (b ∷ []) bs)

-- a word that is neither empty nor `-` is pairs
pub word_of_pairs : (cs : List ℕ) → (length cs ≡ 0 → ⊥) → (cs ≡ 45 ∷ [] → ⊥) → pairs_of cs ≡ bytes_of cs
word_of_pairs [] some other = absurd (some refl)
word_of_pairs (c ∷ []) some other = sym (cond-false _ _ _ (ne_eqb c 45 (λ e. other (ap (λ x. x ∷ []) e))))
word_of_pairs (high ∷ low ∷ cs) some other = refl
