use Rattle.std.proofs.Common.{arith, rules}
use Rattle.bytesable.proofs.TweakLaws.{no_length}
use Rattle.bytesable.proofs.tweak.Tweak.read.Goals as goal

pub returns-in_default : goal.returns-in_default
returns-in_default c = record { answer = no_length c.args.from.now (λ e. grind (arith, rules)) (λ e. search rules) }
