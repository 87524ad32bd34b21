-- Lease counts that are the numbers of pieces. Assumes nothing.
use Rattle.std.proofs.Common.{◌≡◌, ℕ, ◌+◌, ◌-◌, ◌<◌, ◌≤◌, Bool, true, false, cond, not, eqb, ltb, List, [], ◌∷◌, ◌++◌, length, get_or, set, replicate, Some, None, Option, sym, refl, ap, ◌∙◌, ⊎_elim, arith}
use Rattle.std.specs.List.{slice_get}
use Rattle.std.proofs.lemmas.List.{get_or-replicate, get_or-set_other, get_or-set_same, length-replicate, length-set}
use Rattle.std.proofs.lemmas.Option.{cond_some, none-some, slice_get-get_or, slice_get_past}
use Rattle.std.proofs.lemmas.List.Sums.{sum_by-append, sum_by-cons}
use Rattle.std.proofs.lemmas.Bool.{and_parts, cases_eq, cases_lt, cond-false, cond-true, eq-eqb, eqb-true, lt-ltb, ltb-true, ne_eqb, not-true}
use Rattle.pieces.specs.Pieces.{Span, front, joined, joins, rest}
use Rattle.pieces.specs.Counts.{Counted, among, free, less, more, pieces_in, unleased}
use Rattle.pieces.proofs.Found.{known}

-- 1 where the piece lies in the buffer b
abbrev one : ℕ → Span → ℕ
one b p = cond (eqb p.buffer b) 1 0

one_here : (b : ℕ) (p : Span) → p.buffer ≡ b → one b p ≡ 1
one_here b p e = cond-true (eqb p.buffer b) 1 0 (eq-eqb p.buffer b e)

one_there : (b : ℕ) (p : Span) → (p.buffer ≡ b → ⊥) → one b p ≡ 0
one_there b p ne = cond-false (eqb p.buffer b) 1 0 (ne_eqb p.buffer b ne)

-- a piece anywhere in a list counts one
pub count_one : (b : ℕ) (ps qs : List Span) (p : Span) → pieces_in b (ps ++ p ∷ qs) ≡ pieces_in b (ps ++ qs) + one b p
count_one b ps qs p =
    let f : Span → ℕ = one b in
    let x = sum_by-append (one b) ps (p ∷ qs) in
    let y = sum_by-append (one b) ps qs in
    let z = sum_by-cons (one b) p qs in
    omega arith

-- the counts with another one for the buffer b₀, and pieces of which just the number in b₀ is another
recounted : (cs : List ℕ) (ps ps' : List Span) (b₀ n : ℕ) → Counted cs ps → n ≡ pieces_in b₀ ps'
    → ((b : ℕ) → (b ≡ b₀ → ⊥) → pieces_in b ps' ≡ pieces_in b ps) → Counted (set cs b₀ n) ps'
recounted cs ps ps' b₀ n counted here there b lt =
    let len = length-set cs b₀ n in
    ⊎_elim
    (λ (e : b ≡ b₀). ap (λ k. get_or (set cs b₀ n) k 0) e ∙ get_or-set_same cs b₀ n 0 (omega arith) ∙ here ∙ ap (λ k. pieces_in k ps') (sym e))
    (λ ne. get_or-set_other cs b₀ b n 0 ne ∙ counted b (omega arith) ∙ sym (there b ne))
    (cases_eq b b₀)

pub none : (n : ℕ) → Counted (replicate n 0) []
none n b lt = let len : length (replicate {A = ℕ} n 0) ≡ n = length-replicate n 0 in get_or-replicate n b 0 0 (omega arith)

-- a count that rose or fell is that of one of the buffers
some_more : (g n : ℕ) → more (Some g) ≡ Some n → n ≡ g + 1
some_more g n e = sym (cond_some (ltb g 65535) (g + 1) n e).1

some_less : (g n : ℕ) → less (Some g) ≡ Some n → n + 1 ≡ g
some_less g n e = let h = cond_some (ltb 0 g) (g - 1) n e in omega (arith, ltb-true 0 g h.0, h.1)

rose : (cs : List ℕ) (b n : ℕ) → more (slice_get cs b) ≡ Some n → (b < length cs) × (n ≡ get_or cs b 0 + 1)
rose cs b n e =
    ⊎_elim
    (λ (lt : b < length cs). (lt, some_more (get_or cs b 0) n (ap more (sym (slice_get-get_or cs b 0 lt)) ∙ e)))
    (λ (le : length cs ≤ b). absurd (none-some n (sym (ap more (slice_get_past cs b le)) ∙ e)))
    (cases_lt b (length cs))

fell : (cs : List ℕ) (b n : ℕ) → less (slice_get cs b) ≡ Some n → (b < length cs) × (n + 1 ≡ get_or cs b 0)
fell cs b n e =
    ⊎_elim
    (λ (lt : b < length cs). (lt, some_less (get_or cs b 0) n (ap less (sym (slice_get-get_or cs b 0 lt)) ∙ e)))
    (λ (le : length cs ≤ b). absurd (none-some n (sym (ap less (slice_get_past cs b le)) ∙ e)))
    (cases_lt b (length cs))

-- a part of a piece lies where the cut says
front_in : (t : Bool) (x f : Span) → cond t None (Some x) ≡ Some f → x.buffer ≡ f.buffer
front_in true x f e = cc e
front_in false x f e = let h : x ≡ f = cc in ap (λ s. s.buffer) h

module _ (cs : List ℕ) (ps qs : List Span) (p : Span) where
  pub add : (n : ℕ) → Counted cs (ps ++ qs) → more (slice_get cs p.buffer) ≡ Some n → Counted (set cs p.buffer n) (ps ++ p ∷ qs)
  add n counted e =
      let r = rose cs p.buffer n e in
      let c = counted p.buffer r.0 in
      let i = one_here p.buffer p refl in
      recounted cs (ps ++ qs) (ps ++ p ∷ qs) p.buffer n counted
      (omega (arith, count_one p.buffer ps qs p))
      (λ b ne. let o = one_there b p (λ h. ne (sym h)) in omega (arith, count_one b ps qs p))

  pub end : (n : ℕ) → Counted cs (ps ++ p ∷ qs) → less (slice_get cs p.buffer) ≡ Some n → Counted (set cs p.buffer n) (ps ++ qs)
  end n counted e =
      let r = fell cs p.buffer n e in
      let c = counted p.buffer r.0 in
      let i = one_here p.buffer p refl in
      recounted cs (ps ++ p ∷ qs) (ps ++ qs) p.buffer n counted
      (omega (arith, count_one p.buffer ps qs p))
      (λ b ne. let o = one_there b p (λ h. ne (sym h)) in omega (arith, count_one b ps qs p))

  pub ends : Counted cs (ps ++ p ∷ qs) → p.buffer < length cs → (n : ℕ) × (less (slice_get cs p.buffer) ≡ Some n)
  ends counted lt =
      let c = counted p.buffer lt in
      let i = one_here p.buffer p refl in
      let some : 0 < get_or cs p.buffer 0 = omega (arith, count_one p.buffer ps qs p) in
      (get_or cs p.buffer 0 - 1, ap less (slice_get-get_or cs p.buffer 0 lt) ∙ cond-true (ltb 0 (get_or cs p.buffer 0)) _ _ (lt-ltb 0 (get_or cs p.buffer 0) some))

  pub merge : (q : Span) (n : ℕ) → joins p q ≡ true → Counted cs (ps ++ p ∷ q ∷ qs) → less (slice_get cs p.buffer) ≡ Some n → Counted (set cs p.buffer n) (ps ++ joined p q ∷ qs)
  merge q n h counted e =
      let same = eqb-true p.buffer q.buffer (and_parts (eqb p.buffer q.buffer) (eqb (p.start + p.len) q.start) h).0 in
      let r = fell cs p.buffer n e in
      let c = counted p.buffer r.0 in
      let i = one_here p.buffer p refl in
      let j = one_here p.buffer q (sym same) in
      recounted cs (ps ++ p ∷ q ∷ qs) (ps ++ joined p q ∷ qs) p.buffer n counted
      (omega (arith, count_one p.buffer ps (q ∷ qs) p, count_one p.buffer ps qs q, count_one p.buffer ps qs (joined p q)))
      (λ b ne. let o = one_there b p (λ k. ne (sym k)) in let u = one_there b q (λ k. ne (sym k ∙ sym same)) in
      omega (arith, count_one b ps (q ∷ qs) p, count_one b ps qs q, count_one b ps qs (joined p q)))

  -- both parts of a piece lie in its buffer
  cut_by : (f r : Span) (n : ℕ) → f.buffer ≡ p.buffer → r.buffer ≡ p.buffer → Counted cs (ps ++ p ∷ qs) → more (slice_get cs p.buffer) ≡ Some n
      → Counted (set cs p.buffer n) (ps ++ f ∷ r ∷ qs)
  cut_by f r n ef er counted e =
      let g = rose cs p.buffer n e in
      let c = counted p.buffer g.0 in
      let i = one_here p.buffer p refl in
      let j = one_here p.buffer f ef in
      let k = one_here p.buffer r er in
      recounted cs (ps ++ p ∷ qs) (ps ++ f ∷ r ∷ qs) p.buffer n counted
      (omega (arith, count_one p.buffer ps qs p, count_one p.buffer ps qs r, count_one p.buffer ps (r ∷ qs) f))
      (λ b ne. let o = one_there b p (λ h. ne (sym h)) in let u = one_there b f (λ h. ne (sym h ∙ ef)) in let v = one_there b r (λ h. ne (sym h ∙ er)) in
      omega (arith, count_one b ps qs p, count_one b ps qs r, count_one b ps (r ∷ qs) f))

  pub cut : (f r : Span) (k n : ℕ) → front k p ≡ Some f → rest k p ≡ Some r → Counted cs (ps ++ p ∷ qs) → more (slice_get cs p.buffer) ≡ Some n
      → Counted (set cs p.buffer n) (ps ++ f ∷ r ∷ qs)
  cut f r k n ef er = cut_by f r n (sym (front_in (eqb k 0) _ f ef)) (sym (ap (λ s. s.buffer) (cond_some (ltb k p.len) _ r er).1))

pub no_slab : (cs : List ℕ) (ws : List (Option ℕ)) (b : ℕ) → free cs ws b ≡ true → among b ws ≡ false
no_slab cs ws b h = not-true (among b ws) (and_parts (unleased (slice_get cs b)) (not (among b ws)) h).1

pub no_piece : (cs : List ℕ) (ws : List (Option ℕ)) (ps : List Span) (b : ℕ) → Counted cs ps → free cs ws b ≡ true → pieces_in b ps ≡ 0
no_piece cs ws ps b counted h =
    let lt = known cs ws b h in
    let u = (and_parts (unleased (slice_get cs b)) (not (among b ws)) h).0 in
    let z = eqb-true (get_or cs b 0) 0 (ap unleased (sym (slice_get-get_or cs b 0 lt)) ∙ u) in
    sym (counted b lt) ∙ z
