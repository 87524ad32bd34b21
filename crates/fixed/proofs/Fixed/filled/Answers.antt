use Rattle.std.proofs.Common.{min, take, replicate, ap, ◌∙◌, arith}
use Rattle.std.proofs.lemmas.List.{take-replicate}
use Rattle.fixed.proofs.Fixed.filled.Goals as goal

pub returns : goal.returns
returns g c =
    record { answer = ap (λ k. take k (replicate g.row.N c.args.value)) c.min.ensures ∙ take-replicate (min c.args.count g.row.N) g.row.N c.args.value (omega arith) }
