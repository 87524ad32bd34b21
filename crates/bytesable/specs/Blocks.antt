-- A block as octets. Assumes nothing.
use Rattle.std.specs.Prelude.{ℕ, List}
use Rattle.fixed.specs.Held.{held}
use Rattle.bytesable.specs.declared.block.Block.{Block}

-- the octets themselves, with no tag
abbrev pub block_octets : Block → List ℕ
block_octets b = held b.octets
