use Rattle.octets.proofs.Spelling.{value_back, octets-value}
use Rattle.octets.proofs.integer.round_trip_holds.Goals as goal

pub returns : goal.returns
returns c = record { back = value_back; again = octets-value }
