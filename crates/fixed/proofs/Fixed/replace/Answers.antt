use Rattle.std.proofs.Common.{sym, arith}
use Rattle.std.proofs.Math.Seq.{take-set-lt}
use Rattle.fixed.proofs.Places.{inside, set_outside}
use Rattle.fixed.proofs.Fixed.replace.Goals as goal

pub returns-in_err-old-clause-after : goal.returns-in_err-old-clause-after
returns-in_err-old-clause-after g c =
    let t = c.args.self.now in
    sym (set_outside t.items t.len c.args.i (omega arith) _ c.in_err-old.ensures.answer)

pub returns-clause-after : goal.returns-clause-after
returns-clause-after g c =
    let t = c.args.self.now in
    take-set-lt t.len t.items c.args.i _ (inside t.items t.len c.args.i (omega arith) _ c.in_ok-old.ensures.answer)
