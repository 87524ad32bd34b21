use Rattle.std.proofs.Common.{sym, arith}
use Rattle.fixed.proofs.Places.{inside, removed_outside, removed_inside}
use Rattle.fixed.proofs.Fixed.remove.Goals as goal

pub returns-in_err-old-clause-after : goal.returns-in_err-old-clause-after
returns-in_err-old-clause-after g c =
    let t = c.args.self.now in
    sym (removed_outside t.items t.len c.args.i (omega arith) c.in_err-old.ensures.answer)

pub returns-clause-after : goal.returns-clause-after
returns-clause-after g c =
    let t = c.args.self.now in
    let within = inside t.items t.len c.args.i (omega arith) _ c.in_ok-old.ensures.answer in
    rw c.copy_within.ensures.after (removed_inside t.items t.len c.args.i (omega arith) within)
