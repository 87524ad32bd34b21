-- What a slab holds, and what writing and extracting make of it. Assumes nothing.
use Rattle.std.specs.Prelude.{◌≡◌, ℕ, ◌+◌, ◌-◌, ◌*◌, ◌<◌, Bool, cond, ◌&&◌, List, length, take, drop, Some, None, Option, Result, MatchResult, nat_le}
use Rattle.std.specs.Borrow.{Bor}
use Rattle.answers.specs.Faults.{number_of}
use Rattle.answers.specs.declared.Fault.{Fault}
use Rattle.shape.specs.Figures.{Made}
use Rattle.shape.specs.declared.shape.Shape.{Shape}
use Rattle.pieces.specs.Pieces.{Span}
use Rattle.bytes_slab.specs.declared.slab.BytesSlab.{BytesSlab}

-- a slab: its region's shape, its working buffer, and where its valid bytes begin and end
pub record Slab : Type 0 where
  pub shape : Shape
  pub buffer : ℕ
  pub begin : ℕ
  pub end : ℕ

abbrev pub seen : BytesSlab → Slab
seen s = record { shape = s.shape; buffer = s.buffer; begin = s.begin; end = s.end }

-- a slab at the front of a buffer of the region; 1 for another
abbrev pub at_front : Shape → ℕ → ℕ → Slab
at_front shape buffer valid = record { shape = shape; buffer = buffer; begin = 0; end = valid }

abbrev pub Begins : Shape → ℕ → Result BytesSlab Fault → Type 0
Begins shape buffer = Made (buffer < shape.buffers) (λ s. seen s ≡ at_front shape buffer 0)

-- a region of the slab's shape
abbrev pub Region : Slab → List ℕ → Type 0
Region s region = length region ≡ s.shape.buffers * s.shape.size

-- the valid bytes in a region
abbrev pub valid_bytes : Slab → List ℕ → List ℕ
valid_bytes s region = take (s.end - s.begin) (drop (s.buffer * s.shape.size + s.begin) region)

-- the valid bytes in a region of its shape; 2 for another
abbrev pub Shows : Slab → List ℕ → Result (Bor (List ℕ)) Fault → Type 0
Shows s region r =
    MatchResult r
    (λ part. Region s region × (part.now ≡ valid_bytes s region))
    (λ f. (Region s region → ⊥) × (number_of f ≡ 2))

-- the empty bytes of the buffer are so many, and the slab once they are valid
abbrev pub room : Slab → ℕ → Bool
room s count = nat_le count (s.shape.size - s.end)

abbrev pub grown : Slab → ℕ → Slab
grown s count = record { shape = s.shape; buffer = s.buffer; begin = s.begin; end = cond (room s count) (s.end + count) s.end }

-- the first valid bytes as a piece, and the slab without them
abbrev pub has : Slab → ℕ → Bool
has s count = nat_le 1 count && nat_le count (s.end - s.begin)

abbrev pub extracted : Slab → ℕ → Option Span
extracted s count = cond (has s count) (Some (record { buffer = s.buffer; start = s.begin; len = count })) None

abbrev pub shortened : Slab → ℕ → Slab
shortened s count = record { shape = s.shape; buffer = s.buffer; begin = cond (has s count) (s.begin + count) s.begin; end = s.end }
