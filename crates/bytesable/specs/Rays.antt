-- A ray as octets. Assumes nothing.
use Rattle.std.specs.Prelude.{ℕ, List, ◌++◌}
use Rattle.std.specs.Int.{w64}
use Rattle.std.proofs.Common.{of_z}
use Rattle.octets.specs.Octets.{octets}
use Rattle.bytesable.specs.Fields.{field}
use Rattle.bytesable.specs.declared.ray.Ray.{Ray}

-- surface, height and path, each a field; the last two in two's complement
unfoldable pub ray_octets : Ray → List ℕ
ray_octets r = field 1 (octets 4 r.surface) ++ (field 2 (octets 8 (of_z w64 r.height)) ++ field 3 (octets 8 (of_z w64 r.path)))
