use Rattle.std.proofs.Common.{T, sym, ap, ◌∙◌, subst}
use lib.Ieee.{binary64, fits}
use Rattle.octets.specs.Octets.{octets}
use Rattle.octets.proofs.Floats.{pattern_of_lem}
use Rattle.octets.proofs.Laying.{lays_as}
use Rattle.octets.proofs.float.F64Number.write_at.Goals as goal

pub returns : goal.returns
returns c =
    let held : T (fits binary64 c.args.self) = subst T (sym c.well_formed.0.1) tt in
    record {
      after = lays_as c.args.at c.args.out.now c.write_at.result c.write_at.new.out (ap (octets 8) (c.f64_to_bits_with_nan.ensures ∙ sym (pattern_of_lem c.args.self held))) c.write_at.ensures.after;
    }
