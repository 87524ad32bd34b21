-- A queue that is extended by a piece. Assumes nothing.
use Rattle.std.proofs.Common.{◌≡◌, ℕ, ◌+◌, ◌-◌, true, false, cond, ◌⊎◌, List, [], ◌∷◌, ◌++◌, length, set, Some, None, Option, sym, refl, ap, ◌∙◌, subst, eqb, inl, inr, ⊎_elim, arith}
use Rattle.std.specs.List.{slice_get}
use Rattle.std.specs.Option.{option_map}
use Rattle.std.proofs.Math.Seq.{set-append_seam}
use Rattle.std.proofs.lemmas.List.{append_assoc, append-nil, length-append}
use Rattle.std.proofs.lemmas.Grind.{flat_map-append}
use Rattle.std.proofs.lemmas.Bool.{cases_Bool, cond-false, cond-true}
use Rattle.pieces.specs.Pieces.{Span, bytes, joined, joins}
use Rattle.pieces.specs.Counts.{pieces_in}
use Rattle.bytes_exchange.specs.Queues.{Entry, resident, paged, became, contents, continued, extended, extended_by, grown, handles, residents, through}
use Rattle.regions.specs.Queues.{leased}
use Rattle.regions.proofs.Leasing.{count_one}
use Rattle.regions.proofs.Reading.{merge}

-- the piece continues the last entry, which is resident, and is merged with it
record Merges (es : List Entry) (p : Span) : Type 0 where
  pub before : List Entry
  pub last : Span
  pub meets : joins last p ≡ true
  pub was : es ≡ before ++ resident last ∷ []
  pub entry : grown es p ≡ Some (resident (joined last p))
  pub is : extended es p ≡ before ++ resident (joined last p) ∷ []

last_place : (es : List Entry) (l : Entry) → length (es ++ l ∷ []) - 1 ≡ length es
last_place es l = let n = length-append es (l ∷ []) in omega arith

last_is : (es : List Entry) (l : Entry) → slice_get (es ++ l ∷ []) (length es) ≡ Some l
last_is [] l = refl
last_is (e ∷ es) l = last_is es l

last_grown : (es : List Entry) (l : Entry) (p : Span) → grown (es ++ l ∷ []) p ≡ continued (Some l) p
last_grown es l p = ap (λ o. continued o p) (ap (slice_get (es ++ l ∷ [])) (last_place es l) ∙ last_is es l)

by_last : (es : List Entry) (l : Entry) (p : Span) → (grown (es ++ l ∷ []) p ≡ None) ⊎ Merges (es ++ l ∷ []) p
by_last es (paged h) p = inl (last_grown es (paged h) p)
by_last es (resident l) p =
    let g = last_grown es (resident l) p in
    ⊎_elim
    (λ (t : joins l p ≡ true).
    let e : grown (es ++ resident l ∷ []) p ≡ Some (resident (joined l p)) = g ∙ ap (option_map resident) (cond-true (joins l p) (Some (joined l p)) None t) in
    inr (record {
      before = es;
      last = l;
      meets = t;
      was = refl;
      entry = e;
      is =
          ap (extended_by (es ++ resident l ∷ []) p) e
          ∙ ap (λ k. set (es ++ resident l ∷ []) k (resident (joined l p))) (last_place es (resident l))
          ∙ set-append_seam es (resident l) [] (resident (joined l p));
    }))
    (λ (f : joins l p ≡ false). inl (g ∙ ap (option_map resident) (cond-false (joins l p) (Some (joined l p)) None f)))
    (cases_Bool (joins l p))

-- a list has no entry, or a last one
ended : (e : Entry) (es : List Entry) → (before : List Entry) × ((l : Entry) × (e ∷ es ≡ before ++ l ∷ []))
ended e [] = ([], (e, refl))
ended e (x ∷ es) = let r = ended x es in (e ∷ r.0, (r.1.0, ap (λ xs. e ∷ xs) r.1.1))

-- the piece is an entry of its own, or merged with the last one
two_ways : (es : List Entry) (p : Span) → (grown es p ≡ None) ⊎ Merges es p
two_ways [] p = inl refl
two_ways (e ∷ es) p = let r = ended e es in subst (λ xs. (grown xs p ≡ None) ⊎ Merges xs p) (sym r.1.1) (by_last r.0 r.1.0 p)

appended : (es : List Entry) (p : Span) → grown es p ≡ None → extended es p ≡ es ++ resident p ∷ []
appended es p e = ap (extended_by es p) e

module _ (size : ℕ) (region : List ℕ) (chunk : ℕ → Option (List ℕ)) where
  -- the bytes of entries and of one resident entry behind them
  contents_more : (es : List Entry) (p : Span) → contents size region chunk (es ++ resident p ∷ []) ≡ contents size region chunk es ++ bytes size region p
  contents_more es p =
      flat_map-append (through size region chunk) es (resident p ∷ [])
      ∙ ap (λ ys. contents size region chunk es ++ ys) (append-nil (bytes size region p))

  pub bytes_behind : (es : List Entry) (p : Span) → contents size region chunk (extended es p) ≡ contents size region chunk es ++ bytes size region p
  bytes_behind es p =
      ⊎_elim
      (λ (e : grown es p ≡ None). ap (contents size region chunk) (appended es p e) ∙ contents_more es p)
      (λ (m : Merges es p).
      ap (contents size region chunk) m.is
      ∙ contents_more m.before (joined m.last p)
      ∙ ap (λ ys. contents size region chunk m.before ++ ys) (merge size region m.last p m.meets)
      ∙ sym (append_assoc (contents size region chunk m.before) (bytes size region m.last) (bytes size region p))
      ∙ ap (λ ys. ys ++ bytes size region p) (sym (ap (contents size region chunk) m.was ∙ contents_more m.before m.last)))
      (two_ways es p)

-- a resident entry behind others adds no handle, and one piece
handles_more : (es : List Entry) (p : Span) → handles (es ++ resident p ∷ []) ≡ handles es
handles_more [] p = refl
handles_more (resident q ∷ es) p = handles_more es p
handles_more (paged h ∷ es) p = ap (λ hs. h ∷ hs) (handles_more es p)

residents_more : (es : List Entry) (p : Span) → residents (es ++ resident p ∷ []) ≡ residents es ++ p ∷ []
residents_more [] p = refl
residents_more (resident q ∷ es) p = ap (λ ps. q ∷ ps) (residents_more es p)
residents_more (paged h ∷ es) p = residents_more es p

pub same_handles : (es : List Entry) (p : Span) → handles (extended es p) ≡ handles es
same_handles es p =
    ⊎_elim
    (λ (e : grown es p ≡ None). ap handles (appended es p e) ∙ handles_more es p)
    (λ (m : Merges es p). ap handles m.is ∙ handles_more m.before (joined m.last p) ∙ sym (ap handles m.was ∙ handles_more m.before m.last))
    (two_ways es p)

-- how many pieces of the buffer b entries and one resident entry behind them have
pieces_more : (b : ℕ) (es : List Entry) (p : Span) → pieces_in b (residents (es ++ resident p ∷ [])) ≡ pieces_in b (residents es) + cond (eqb p.buffer b) 1 0
pieces_more b es p = ap (pieces_in b) (residents_more es p) ∙ count_one b (residents es) [] p ∙ ap (λ ps. pieces_in b ps + cond (eqb p.buffer b) 1 0) (append-nil (residents es))

pub leases : (es : List Entry) (p : Span) (b : ℕ) → pieces_in b (residents (extended es p)) ≡ pieces_in b (residents es) + leased b p (became (grown es p))
leases es p b =
    ⊎_elim
    (λ (e : grown es p ≡ None).
    ap (λ xs. pieces_in b (residents xs)) (appended es p e)
    ∙ pieces_more b es p
    ∙ ap (λ o. pieces_in b (residents es) + leased b p (became o)) (sym e))
    (λ (m : Merges es p).
    let same : pieces_in b (residents (extended es p)) ≡ pieces_in b (residents es)
    = ap (λ xs. pieces_in b (residents xs)) m.is ∙ pieces_more b m.before (joined m.last p) ∙ sym (ap (λ xs. pieces_in b (residents xs)) m.was ∙ pieces_more b m.before m.last) in
    let none : leased b p (became (grown es p)) ≡ 0 = ap (λ o. leased b p (became o)) m.entry in
    omega arith)
    (two_ways es p)
