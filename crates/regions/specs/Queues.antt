-- A queue that is extended by a piece. Assumes nothing.
use Rattle.std.specs.Prelude.{◌≡◌, ℕ, ◌+◌, cond, List, ◌++◌, Option, ◌==◌}
use Rattle.pieces.specs.Pieces.{Span, bytes}
use Rattle.pieces.specs.Counts.{pieces_in}
use Rattle.bytes_exchange.specs.Queues.{Entry, became, contents, extended, grown, handles, residents}
use Rattle.bytes_exchange.specs.declared.entry.Extended.{Extended}
use Rattle.bytes_exchange.specs.declared.entry.Extended.TheVariants.{Merged, Appended}

-- the leases that a piece adds to a buffer: its own, unless it merged
abbrev pub leased : ℕ → Span → Extended → ℕ
leased b p Merged = 0
leased b p Appended = cond (p.buffer == b) 1 0

pub record Queues : Type 0 where
  -- the queue's bytes in order stay, and the piece's come behind them
  pub bytes_behind : (size : ℕ) (region : List ℕ) (chunk : ℕ → Option (List ℕ)) (es : List Entry) (p : Span)
      → contents size region chunk (extended es p) ≡ contents size region chunk es ++ bytes size region p
  -- the handles stay
  pub same_handles : (es : List Entry) (p : Span) → handles (extended es p) ≡ handles es
  -- a buffer has a piece more where the piece is an entry of its own, and as many as before where it merged
  pub leases : (es : List Entry) (p : Span) (b : ℕ) → pieces_in b (residents (extended es p)) ≡ pieces_in b (residents es) + leased b p (became (grown es p))
