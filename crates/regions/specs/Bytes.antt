-- The bytes of pieces in a region. Assumes nothing.
use Rattle.std.specs.Prelude.{◌≡◌, ℕ, ◌+◌, ◌*◌, ◌≤◌, true, ◌⊎◌, List, [], ◌++◌, length, Some, None, Option, ◌≢◌}
use Rattle.std.proofs.Math.Seq.{paste}
use Rattle.pieces.specs.Pieces.{Span, Inside, bytes, front, joined, joins, rest}

-- the bytes of a piece, where there is one
abbrev pub bytes_of : ℕ → List ℕ → Option Span → List ℕ
bytes_of size region None = []
bytes_of size region (Some p) = bytes size region p

pub record Bytes : Type 0 where
  -- a piece inside a region has as many bytes as it is long
  pub many : (size buffers : ℕ) (region : List ℕ) (p : Span) → length region ≡ buffers * size → Inside size buffers p → length (bytes size region p) ≡ p.len
  -- merging joins the bytes
  pub merge : (size : ℕ) (region : List ℕ) (p q : Span) → joins p q ≡ true → bytes size region (joined p q) ≡ bytes size region p ++ bytes size region q
  -- cutting parts them
  pub cut : (size : ℕ) (region : List ℕ) (n : ℕ) (p : Span) → bytes size region p ≡ bytes_of size region (front n p) ++ bytes_of size region (rest n p)
  -- writing before or behind a piece leaves its bytes
  pub elsewhere : (size : ℕ) (region os : List ℕ) (at : ℕ) (p : Span) → at + length os ≤ length region
      → (at + length os ≤ p.buffer * size + p.start) ⊎ (p.buffer * size + (p.start + p.len) ≤ at)
      → bytes size (paste region at os (length os)) p ≡ bytes size region p
  -- so does writing within another buffer
  pub other_buffer : (size buffers : ℕ) (region os : List ℕ) (b x : ℕ) (p : Span) → length region ≡ buffers * size → Inside size buffers p
      → b + 1 ≤ buffers → x + length os ≤ size → (b ≢ p.buffer)
      → bytes size (paste region (b * size + x) os (length os)) p ≡ bytes size region p
  -- what is written where a piece lies are its bytes
  pub written : (size : ℕ) (region os : List ℕ) (p : Span) → p.buffer * size + p.start + length os ≤ length region → p.len ≡ length os
      → bytes size (paste region (p.buffer * size + p.start) os (length os)) p ≡ os
