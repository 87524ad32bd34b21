use Rattle.std.proofs.Common.{refl}
use Rattle.octets.specs.Octets.{value}
use Rattle.networking.proofs.header.closing_header.Goals as goal

pub returns : goal.returns
unfolding value
returns c = record { answer = refl; closes = refl }
