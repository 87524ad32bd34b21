-- Pieces of a region, and their bytes. Assumes nothing.
use Rattle.std.specs.Prelude.{◌≡◌, ℕ, ◌+◌, ◌-◌, ◌*◌, ◌<◌, ◌≤◌, min, Bool, cond, ◌&&◌, List, length, take, drop, Some, None, Option, Result, MatchResult, ◌==◌, nat_le, nat_lt}
use Rattle.std.specs.Borrow.{Bor}
use Rattle.answers.specs.Faults.{number_of}
use Rattle.answers.specs.declared.Fault.{Fault}
use Rattle.shape.specs.declared.shape.Shape.{Shape}
use Rattle.pieces.specs.declared.piece.Piece.{Piece}

-- where a piece lies: a buffer, a start in it, a length
pub record Span : Type 0 where
  pub buffer : ℕ
  pub start : ℕ
  pub len : ℕ

abbrev pub span : Piece → Span
span p = record { buffer = p.buffer; start = p.start; len = p.len }

-- a piece has a byte, and lies in a buffer of the greatest size of the greatest region
abbrev pub piece : ℕ → ℕ → ℕ → Option Span
piece buffer start len = cond (nat_lt buffer 16 && (nat_le 1 len && nat_le (start + len) 4096)) (Some (record { buffer = buffer; start = start; len = len })) None

-- two that share the buffer, the second starting where the first ends, and both as one
abbrev pub joins : Span → Span → Bool
joins p q = p.buffer == q.buffer && p.start + p.len == q.start

abbrev pub joined : Span → Span → Span
joined p q = record { buffer = p.buffer; start = p.start; len = p.len + q.len }

abbrev pub merged : Span → Span → Option Span
merged p q = cond (joins p q) (Some (joined p q)) None

-- the first n bytes, and those behind them
abbrev pub front : ℕ → Span → Option Span
front n p = cond (n == 0) None (Some (record { buffer = p.buffer; start = p.start; len = min n p.len }))

abbrev pub rest : ℕ → Span → Option Span
rest n p = cond (nat_lt n p.len) (Some (record { buffer = p.buffer; start = p.start + n; len = p.len - n })) None

-- it has a byte, and lies in one of a region's buffers
abbrev pub Inside : ℕ → ℕ → Span → Type 0
Inside size buffers p = (p.buffer < buffers) × (0 < p.len) × (p.start + p.len ≤ size)

-- its bytes in a region of buffers of a size
abbrev pub bytes : ℕ → List ℕ → Span → List ℕ
bytes size region p = take p.len (drop (p.buffer * size + p.start) region)

-- the bytes in a region of that shape; 2 for another, else 20 where the piece leaves its buffer
abbrev pub Reads : Shape → List ℕ → Span → Result (Bor (List ℕ)) Fault → Type 0
Reads shape region p r =
    MatchResult r
    (λ part. (length region ≡ shape.buffers * shape.size) × Inside shape.size shape.buffers p × (part.now ≡ bytes shape.size region p))
    (λ f. (number_of f ≡ cond (length region == shape.buffers * shape.size) 20 2) × (length region ≡ shape.buffers * shape.size → Inside shape.size shape.buffers p → ⊥))
