use Rattle.octets.proofs.Floats.{standard}
use Rattle.octets.proofs.float.standard_holds.Goals as goal

pub returns : goal.returns
returns c = standard
