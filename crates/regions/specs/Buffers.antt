-- A slab that changes its working buffer. Assumes nothing.
use Rattle.std.specs.Prelude.{◌≡◌, ℕ, ◌+◌, ◌-◌, ◌<◌, ◌≤◌, List, length, ◌≢◌}
use Rattle.pieces.specs.Pieces.{Span, Inside, bytes}
use Rattle.bytes_slab.specs.Slabs.{Slab, Region, valid_bytes}
use Rattle.bytes_slab.specs.Capacity.{Moves}

-- a slab inside its region
abbrev pub Sits : Slab → Type 0
Sits s = (s.buffer < s.shape.buffers) × (s.begin ≤ s.end) × (s.end ≤ s.shape.size)

pub record Buffers : Type 0 where
  -- the valid bytes and the region's length stay
  pub valid : (b : ℕ) (s s' : Slab) (region region' : List ℕ) → Sits s → b < s.shape.buffers → Region s region → Moves b s region s' region' → valid_bytes s' region' ≡ valid_bytes s region
  pub long : (b : ℕ) (s s' : Slab) (region region' : List ℕ) → Sits s → b < s.shape.buffers → Region s region → Moves b s region s' region' → length region' ≡ length region
  -- the bytes of a piece in any other buffer stay
  pub others : (b : ℕ) (s s' : Slab) (region region' : List ℕ) (p : Span) → Sits s → b < s.shape.buffers → Region s region → Moves b s region s' region'
      → Inside s.shape.size s.shape.buffers p → (b ≢ p.buffer) → bytes s.shape.size region' p ≡ bytes s.shape.size region p
  -- there is space then for what the valid bytes leave of a buffer
  pub space : (b : ℕ) (s s' : Slab) (region region' : List ℕ) (capacity : ℕ) → Moves b s region s' region' → (s.end - s.begin) + capacity ≤ s.shape.size → capacity ≤ s'.shape.size - s'.end
