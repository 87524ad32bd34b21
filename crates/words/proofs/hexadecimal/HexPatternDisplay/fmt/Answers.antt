use Rattle.std.proofs.Common.{◌^◌, ◌<◌, Some, ap, ◌∙◌, rules}
use Rattle.words.proofs.Spelling.{hole_shown, pattern_shown}
use Rattle.words.proofs.hexadecimal.HexPatternDisplay.fmt.Goals as goal

pub returns-clause-writes : goal.returns-clause-writes
returns-clause-writes g c =
    let n = c.args.self.now.0 in
    let fits : n < 2 ^ 64 = search rules in
    let text = hole_shown 16 n c.in_radix.result c.laid_out.result c.laid_out.ensures c.in_radix.ensures ∙ ap Some (pattern_shown n fits) in
    rw text at c.write.ensures.writes
