-- The bytes of pieces. Assumes nothing.
use Rattle.std.proofs.Common.{◌≡◌, ℕ, ◌+◌, ◌-◌, ◌*◌, ◌<◌, ◌≤◌, min, true, eqb, ltb, ◌⊎◌, List, ◌++◌, length, take, drop, sym, refl, ap, ◌∙◌, ap₂, inl, inr, ⊎_elim, arith}
use Rattle.std.proofs.Math.Seq.{paste, take-add}
use Rattle.std.proofs.lemmas.List.Edits.{drop-paste, paste_all}
use Rattle.std.proofs.lemmas.List.{append-nil, drop_at, drop-drop, drop-take, length-append, length-drop, length-take, length-take-le, take-append-le, take_at, take-take}
use Rattle.std.proofs.lemmas.Bool.{and_parts, cases_eq, cases_lt, cases_order, cond-false, cond-true, eq-eqb, eqb-true, le-ltb, lt-ltb, ne_eqb}
use Rattle.pieces.specs.Pieces.{Span, Inside, bytes, front, joined, joins, rest}
use Rattle.pieces.proofs.Regions.{in_region}
use Rattle.regions.specs.Bytes.{bytes_of}

pub many : (size buffers : ℕ) (region : List ℕ) (p : Span) → length region ≡ buffers * size → Inside size buffers p → length (bytes size region p) ≡ p.len
many size buffers region p len inside =
    let e = in_region size buffers p.buffer (p.start + p.len) inside.0 inside.2 in
    length-take-le p.len (drop (p.buffer * size + p.start) region) (simp length-drop (omega arith))

-- those from a place on, in two parts
parted : (m n a b : ℕ) (xs : List ℕ) → a + m ≡ b → take (m + n) (drop a xs) ≡ take m (drop a xs) ++ take n (drop b xs)
parted m n a b xs e = take-add m n (drop a xs) ∙ ap (λ ys. take m (drop a xs) ++ take n ys) (drop-drop m a xs ∙ ap (λ k. drop k xs) e)

pub merge : (size : ℕ) (region : List ℕ) (p q : Span) → joins p q ≡ true → bytes size region (joined p q) ≡ bytes size region p ++ bytes size region q
merge size region p q h =
    let parts = and_parts (eqb p.buffer q.buffer) (eqb (p.start + p.len) q.start) h in
    let same : p.buffer * size ≡ q.buffer * size = ap (λ b. b * size) (eqb-true p.buffer q.buffer parts.0) in
    let next = eqb-true (p.start + p.len) q.start parts.1 in
    parted p.len q.len (p.buffer * size + p.start) (q.buffer * size + q.start) region (omega arith)

module _ (size : ℕ) (region : List ℕ) (n : ℕ) (p : Span) where
  front_bytes : bytes_of size region (front n p) ≡ take (min n p.len) (drop (p.buffer * size + p.start) region)
  front_bytes =
      ⊎_elim
      (λ (e : n ≡ 0).
      let z : 0 ≡ min n p.len = omega arith in
      ap (bytes_of size region) (cond-true (eqb n 0) _ _ (eq-eqb n 0 e)) ∙ ap (λ k. take k (drop (p.buffer * size + p.start) region)) z)
      (λ ne. ap (bytes_of size region) (cond-false (eqb n 0) _ _ (ne_eqb n 0 ne)))
      (cases_eq n 0)

  rest_bytes : bytes_of size region (rest n p) ≡ take (p.len - n) (drop (p.buffer * size + (p.start + n)) region)
  rest_bytes =
      ⊎_elim
      (λ (lt : n < p.len). ap (bytes_of size region) (cond-true (ltb n p.len) _ _ (lt-ltb n p.len lt)))
      (λ (le : p.len ≤ n).
      let z : 0 ≡ p.len - n = omega arith in
      ap (bytes_of size region) (cond-false (ltb n p.len) _ _ (le-ltb n p.len le)) ∙ ap (λ k. take k (drop (p.buffer * size + (p.start + n)) region)) z)
      (cases_lt n p.len)

  two_parts : take p.len (drop (p.buffer * size + p.start) region)
      ≡ take (min n p.len) (drop (p.buffer * size + p.start) region) ++ take (p.len - n) (drop (p.buffer * size + (p.start + n)) region)
  two_parts =
      ⊎_elim
      (λ (lt : n < p.len).
      let e : p.len ≡ n + (p.len - n) = omega arith in
      let m : n ≡ min n p.len = omega arith in
      ap (λ k. take k (drop (p.buffer * size + p.start) region)) e
      ∙ parted n (p.len - n) (p.buffer * size + p.start) (p.buffer * size + (p.start + n)) region (omega arith)
      ∙ ap (λ k. take k (drop (p.buffer * size + p.start) region) ++ take (p.len - n) (drop (p.buffer * size + (p.start + n)) region)) m)
      (λ (le : p.len ≤ n).
      let m : p.len ≡ min n p.len = omega arith in
      let z : 0 ≡ p.len - n = omega arith in
      sym (append-nil (take p.len (drop (p.buffer * size + p.start) region)))
      ∙ ap₂ (λ k j. take k (drop (p.buffer * size + p.start) region) ++ take j (drop (p.buffer * size + (p.start + n)) region)) m z)
      (cases_lt n p.len)

  pub cut : bytes size region p ≡ bytes_of size region (front n p) ++ bytes_of size region (rest n p)
  cut = two_parts ∙ sym (ap₂ ◌++◌ front_bytes rest_bytes)

-- what is written before, behind and at a place
module _ (region os : List ℕ) (at : ℕ) (fits : at + length os ≤ length region) where
  written_before : (a n : ℕ) → at + length os ≤ a → take n (drop a (paste region at os (length os))) ≡ take n (drop a region)
  written_before a n le =
      let e : at + length os + (a - (at + length os)) ≡ a = omega arith in
      ap (take n) (
      ap (λ k. drop k (paste region at os (length os))) (sym e)
      ∙ sym (drop-drop (a - (at + length os)) (at + length os) (paste region at os (length os)))
      ∙ ap (drop (a - (at + length os))) (drop-paste region at os (length os) (omega arith) (omega arith))
      ∙ drop-drop (a - (at + length os)) (at + length os) region
      ∙ ap (λ k. drop k region) e)

  written_behind : (a n : ℕ) → a + n ≤ at → take n (drop a (paste region at os (length os))) ≡ take n (drop a region)
  written_behind a n le =
      let l : a + n ≤ length (take at region) = simp length-take (omega arith) in
      let m : a + n ≤ length (take at region ++ take (length os) os) = simp length-append (omega arith) in
      sym (drop-take a n (paste region at os (length os)))
      ∙ ap (drop a) (
      take-append-le (a + n) (take at region ++ take (length os) os) (drop (at + length os) region) m
      ∙ take-append-le (a + n) (take at region) (take (length os) os) l
      ∙ take-take (a + n) at region (omega arith))
      ∙ drop-take a n region

  pub written_at : (n : ℕ) → n ≡ length os → take n (drop at (paste region at os (length os))) ≡ os
  written_at n e =
      ap (λ ys. take n (drop at ys)) (paste_all region at os (length os) refl)
      ∙ ap (take n) (drop_at (take at region) (os ++ drop (at + length os) region) at (length-take-le at region (omega arith)))
      ∙ take_at os (drop (at + length os) region) n (sym e)

pub elsewhere : (size : ℕ) (region os : List ℕ) (at : ℕ) (p : Span) → at + length os ≤ length region
    → (at + length os ≤ p.buffer * size + p.start) ⊎ (p.buffer * size + (p.start + p.len) ≤ at)
    → bytes size (paste region at os (length os)) p ≡ bytes size region p
elsewhere size region os at p fits =
    ⊎_elim
    (λ le. written_before region os at fits (p.buffer * size + p.start) p.len le)
    (λ le. written_behind region os at fits (p.buffer * size + p.start) p.len (omega arith))

pub other_buffer : (size buffers : ℕ) (region os : List ℕ) (b x : ℕ) (p : Span) → length region ≡ buffers * size → Inside size buffers p
    → b + 1 ≤ buffers → x + length os ≤ size → (b ≡ p.buffer → ⊥)
    → bytes size (paste region (b * size + x) os (length os)) p ≡ bytes size region p
other_buffer size buffers region os b x p len inside known fits apart =
    let whole = in_region size buffers b (x + length os) (omega arith) fits in
    elsewhere size region os (b * size + x) p (omega arith)
    (⊎_elim (λ e. absurd (apart e))
    (⊎_elim
    (λ (lt : b < p.buffer). let m = in_region size p.buffer b (x + length os) lt fits in inl (omega arith))
    (λ (gt : p.buffer < b). let m = in_region size b p.buffer (p.start + p.len) gt inside.2 in inr (omega arith)))
    (cases_order b p.buffer))

pub written : (size : ℕ) (region os : List ℕ) (p : Span) → p.buffer * size + p.start + length os ≤ length region → p.len ≡ length os
    → bytes size (paste region (p.buffer * size + p.start) os (length os)) p ≡ os
written size region os p fits e = written_at region os (p.buffer * size + p.start) fits p.len e
