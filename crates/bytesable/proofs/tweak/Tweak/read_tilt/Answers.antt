use Rattle.bytesable.proofs.TweakLaws.{reads_tilt, no_tilt, tilt_first, tilt_second}
use Rattle.bytesable.proofs.tweak.Tweak.read_tilt.Goals as goal

pub returns-in_err-first : goal.returns-in_err-first
returns-in_err-first c = record { answer = rw c.from_residual.ensures (no_tilt c.args.from.now c.requires (λ x y e. c.in_err-first.ensures.answer x (tilt_first _ x y e))) }

pub returns-in_err-second : goal.returns-in_err-second
returns-in_err-second c = record { answer = rw c.from_residual-in_err-second.ensures (no_tilt c.args.from.now c.requires (λ x y e. c.in_err-second.ensures.answer y (tilt_second _ x y e))) }

pub returns : goal.returns
returns c = record { answer = reads_tilt c.args.from.now c.in_ok-first.first c.in_ok-second.second c.requires c.in_ok-first.ensures.answer c.in_ok-second.ensures.answer }
