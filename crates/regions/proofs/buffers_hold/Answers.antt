use Rattle.regions.proofs.Moving.{valid, long, others, space}
use Rattle.regions.proofs.buffers_hold.Goals as goal

pub returns : goal.returns
returns c = record {
  valid = valid;
  long = long;
  others = λ b s s' region region' p sits known whole moves lies apart. others b s s' region region' sits known whole moves p lies apart;
  space = space;
}
