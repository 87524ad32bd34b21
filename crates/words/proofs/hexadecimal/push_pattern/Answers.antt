use Rattle.words.proofs.Spelling.{pattern_back}
use Rattle.words.proofs.hexadecimal.push_pattern.Goals as goal

pub returns : goal.returns
returns c = record { after = c.push_digits.ensures; read_back = pattern_back c.args.pattern c.ranges.pattern.fits }
