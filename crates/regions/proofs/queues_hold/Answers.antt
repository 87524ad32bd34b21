use Rattle.regions.proofs.Extending.{bytes_behind, same_handles, leases}
use Rattle.regions.proofs.queues_hold.Goals as goal

pub returns : goal.returns
returns c = record { bytes_behind = bytes_behind; same_handles = same_handles; leases = leases }
