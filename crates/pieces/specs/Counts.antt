-- Lease counts, and which buffers are free. Assumes nothing.
use Rattle.std.specs.Prelude.{◌≡◌, ℕ, ◌+◌, ◌-◌, ◌<◌, min, Bool, cond, not, ◌&&◌, List, ◌++◌, length, Some, None, count_by, Option, nat_eq, nat_lt, slice_index, slice_set}
use Rattle.std.specs.List.{slice_get, list_any, range_with_len}
use Rattle.std.specs.Option.{option_eq}
use Rattle.fixed.specs.Held.{held}
use Rattle.pieces.specs.declared.leases.Leases.{Leases}
use Rattle.pieces.specs.Pieces.{Span}

-- the kept count of each buffer
abbrev pub counts : Leases → List ℕ
counts l = held l.counts

-- a buffer's count with a piece more, and with one less
abbrev pub more : Option ℕ → Option ℕ
more None = None
more (Some n) = cond (nat_lt n 65535) (Some (n + 1)) None

abbrev pub less : Option ℕ → Option ℕ
less None = None
less (Some n) = cond (nat_lt 0 n) (Some (n - 1)) None

-- the counts with another one for the buffer b
abbrev pub counted : List ℕ → ℕ → Option ℕ → List ℕ
counted cs b None = cs
counted cs b (Some n) = slice_set cs b n

-- how many of some pieces lie in the buffer b
abbrev pub pieces_in : ℕ → List Span → ℕ
pieces_in b ps = count_by (λ p. nat_eq p.buffer b) ps

-- each kept count is the number of pieces in its buffer
abbrev pub Counted : List ℕ → List Span → Type 0
Counted cs ps = (b : ℕ) → b < length cs → slice_index cs b ≡ pieces_in b ps

-- b is the working buffer of one of some slabs, of those that there are
abbrev pub among : ℕ → List (Option ℕ) → Bool
among b ws = list_any (λ w. option_eq nat_eq w (Some b)) ws

-- a free buffer: one of the region's, with no piece, and no slab's working buffer
abbrev pub unleased : Option ℕ → Bool
unleased count = option_eq nat_eq count (Some 0)

abbrev pub free : List ℕ → List (Option ℕ) → ℕ → Bool
free cs ws b = unleased (slice_get cs b) && not (among b ws)

-- the other numbers below n in cyclic order, from the one behind b on
abbrev pub behind : ℕ → ℕ → List ℕ
behind b n = range_with_len (b + 1) (n - (b + 1)) ++ range_with_len 0 (min b n)
