-- Lease counts that are the numbers of pieces, and free buffers. Assumes nothing.
use Rattle.std.specs.Prelude.{◌≡◌, ℕ, ◌<◌, ◌≤◌, Bool, true, false, List, [], ◌∷◌, ◌++◌, length, replicate, Some, None, count_by, Option, ◌≢◌, slice_set}
use Rattle.std.specs.List.{find, range_with_len, slice_get}
use Rattle.pieces.specs.Pieces.{Span, front, joined, joins, rest}
use Rattle.pieces.specs.Counts.{Counted, among, behind, free, less, more, pieces_in}

pub record Leases : Type 0 where
  -- at first there is no piece
  pub none : (n : ℕ) → Counted (replicate n 0) []
  -- a piece more anywhere, where the count rose
  pub add : (cs : List ℕ) (ps qs : List Span) (p : Span) (n : ℕ) → Counted cs (ps ++ qs) → more (slice_get cs p.buffer) ≡ Some n → Counted (slice_set cs p.buffer n) (ps ++ p ∷ qs)
  -- a piece less, where the count fell; of a counted piece's buffer it always falls
  pub end : (cs : List ℕ) (ps qs : List Span) (p : Span) (n : ℕ) → Counted cs (ps ++ p ∷ qs) → less (slice_get cs p.buffer) ≡ Some n → Counted (slice_set cs p.buffer n) (ps ++ qs)
  pub ends : (cs : List ℕ) (ps qs : List Span) (p : Span) → Counted cs (ps ++ p ∷ qs) → p.buffer < length cs → (n : ℕ) × (less (slice_get cs p.buffer) ≡ Some n)
  -- two that merge end one lease
  pub merge : (cs : List ℕ) (ps qs : List Span) (p q : Span) (n : ℕ) → joins p q ≡ true → Counted cs (ps ++ p ∷ q ∷ qs) → less (slice_get cs p.buffer) ≡ Some n → Counted (slice_set cs p.buffer n) (ps ++ joined p q ∷ qs)
  -- one that is cut in two adds one
  pub cut : (cs : List ℕ) (ps qs : List Span) (p f r : Span) (k n : ℕ) → front k p ≡ Some f → rest k p ≡ Some r → Counted cs (ps ++ p ∷ qs) → more (slice_get cs p.buffer) ≡ Some n → Counted (slice_set cs p.buffer n) (ps ++ f ∷ r ∷ qs)
  -- a free buffer is one of the region's, has no piece, and is no slab's working buffer
  pub known : (cs : List ℕ) (ws : List (Option ℕ)) (b : ℕ) → free cs ws b ≡ true → b < length cs
  pub no_piece : (cs : List ℕ) (ws : List (Option ℕ)) (ps : List Span) (b : ℕ) → Counted cs ps → free cs ws b ≡ true → pieces_in b ps ≡ 0
  pub no_slab : (cs : List ℕ) (ws : List (Option ℕ)) (b : ℕ) → free cs ws b ≡ true → among b ws ≡ false
  -- what is found passes; where nothing is found, no other number below n in cyclic order passes, nor any number below n from 0 on
  pub found : (p : ℕ → Bool) (xs : List ℕ) (b : ℕ) → find p xs ≡ Some b → p b ≡ true
  pub no_other : (p : ℕ → Bool) (own n b : ℕ) → find p (behind own n) ≡ None → b < n → (b ≢ own) → p b ≡ false
  pub no_lower : (p : ℕ → Bool) (n b : ℕ) → find p (range_with_len 0 n) ≡ None → b < n → p b ≡ false
  -- a number that does not pass, and one that does: some other passes
  pub some_other : (p : ℕ → Bool) (own n : ℕ) → p own ≡ false → 1 ≤ count_by p (range_with_len 0 n) → find p (behind own n) ≢ None
