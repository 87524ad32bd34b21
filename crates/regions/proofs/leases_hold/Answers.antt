use Rattle.pieces.proofs.Found.{passes, known}
use Rattle.regions.proofs.Leasing.{none, add, end, ends, merge, cut, no_piece, no_slab}
use Rattle.regions.proofs.Searching.{no_other, no_lower, some_other}
use Rattle.regions.proofs.leases_hold.Goals as goal

pub returns : goal.returns
returns c = record {
  none = none;
  add = add;
  end = end;
  ends = ends;
  merge = merge;
  cut = cut;
  known = known;
  no_piece = no_piece;
  no_slab = no_slab;
  found = passes;
  no_other = no_other;
  no_lower = no_lower;
  some_other = some_other;
}
