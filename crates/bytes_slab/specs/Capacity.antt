-- A slab that sees to it that some bytes may be written. Assumes nothing.
use Rattle.std.specs.Prelude.{◌≡◌, ℕ, ◌+◌, ◌-◌, ◌*◌, ◌<◌, ◌≤◌, ◌⊎◌, List, Some, None, Option, Result, MatchResult}
use Rattle.std.proofs.Math.Seq.{paste}
use Rattle.answers.specs.declared.Fault.{Fault}
use Rattle.answers.specs.Faults.{number_of}
use Rattle.std.specs.List.{find}
use Rattle.pieces.specs.Counts.{behind}
use Rattle.pieces.specs.Free.{buffers, is_free}
use Rattle.pieces.specs.declared.free.FreeBuffers.{FreeBuffers}
use Rattle.bytes_slab.specs.Slabs.{Slab, Region, at_front, valid_bytes}

-- region and lease counts are those of the slab's shape
abbrev pub Fitting : FreeBuffers → Slab → List ℕ → Type 0
Fitting free s region = Region s region × (buffers free ≡ s.shape.buffers)

-- the next free buffer in cyclic order after the slab's own
abbrev pub next : FreeBuffers → Slab → Option ℕ
next free s = find (is_free free) (behind s.buffer (buffers free))

-- the slab in the buffer b, its valid bytes at the front; all other bytes of the region stay
pub record Moves (b : ℕ) (s : Slab) (region : List ℕ) (s' : Slab) (region' : List ℕ) : Type 0 where
  pub slab : s' ≡ at_front s.shape b (s.end - s.begin)
  pub bytes : region' ≡ paste region (b * s.shape.size) (valid_bytes s region) (s.end - s.begin)

pub record Stays (s : Slab) (region : List ℕ) (s' : Slab) (region' : List ℕ) : Type 0 where
  pub slab : s' ≡ s
  pub bytes : region' ≡ region

-- Enough empty bytes: all stays. Too few: the slab moves to the next free buffer. Refused, and all stays: by 2 for a
-- region or lease counts of another shape, by 8 where no buffer is free or the valid bytes would leave too few.
abbrev pub Ensures : ℕ → FreeBuffers → Slab → List ℕ → Result Unit Fault → Slab → List ℕ → Type 0
Ensures capacity free s region r s' region' =
    MatchResult r
    (λ _. Fitting free s region × (((capacity ≤ s.shape.size - s.end) × Stays s region s' region')
    ⊎ ((s.shape.size - s.end < capacity) × ((s.end - s.begin) + capacity ≤ s.shape.size) × ((b : ℕ) × (next free s ≡ Some b) × Moves b s region s' region'))))
    (λ f. Stays s region s' region' × (((Fitting free s region → ⊥) × (number_of f ≡ 2))
    ⊎ (Fitting free s region × (s.shape.size - s.end < capacity) × ((next free s ≡ None) ⊎ (s.shape.size < (s.end - s.begin) + capacity)) × (number_of f ≡ 8))))
