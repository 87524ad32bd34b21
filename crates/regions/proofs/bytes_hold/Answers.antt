use Rattle.regions.proofs.Reading.{many, merge, cut, elsewhere, other_buffer, written}
use Rattle.regions.proofs.bytes_hold.Goals as goal

pub returns : goal.returns
returns c = record {
  many = many;
  merge = merge;
  cut = cut;
  elsewhere = elsewhere;
  other_buffer = other_buffer;
  written = written;
}
