-- Which buffers are free. Assumes nothing.
use Rattle.std.specs.Prelude.{ℕ, Bool, length}
use Rattle.pieces.specs.Counts.{counts, free}
use Rattle.pieces.specs.declared.free.FreeBuffers.{FreeBuffers}

-- how many buffers the region has, and whether one is free
abbrev pub buffers : FreeBuffers → ℕ
buffers f = length (counts f.leases.now)

abbrev pub is_free : FreeBuffers → ℕ → Bool
is_free f = free (counts f.leases.now) f.working.now
