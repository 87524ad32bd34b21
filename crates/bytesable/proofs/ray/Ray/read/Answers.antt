use Rattle.std.proofs.Common.{length, ap, ◌∙◌, rules}
use Rattle.bytesable.proofs.RayLaws.{length-ray_octets, ray_parts, ray_whole, held}
use Rattle.bytesable.proofs.ray.Ray.read.Goals as goal

pub returns-then-from-ne-BYTES : goal.returns-then-from-ne-BYTES
returns-then-from-ne-BYTES c = record { answer = λ x e. c.if-from-ne-BYTES.true (ap length e ∙ length-ray_octets x) }

pub returns-in_err-surface : goal.returns-in_err-surface
returns-in_err-surface c = record { answer = rw c.from_residual.ensures (λ x e. c.in_err-surface.ensures.answer x.surface (ray_parts x _ e).surface) }

pub returns-in_err-height : goal.returns-in_err-height
returns-in_err-height c = record { answer = rw c.from_residual-in_err-height.ensures (λ x e. c.in_err-height.ensures.answer x.height (ray_parts x _ e).height) }

pub returns-in_err-path : goal.returns-in_err-path
returns-in_err-path c = record { answer = rw c.from_residual-in_err-path.ensures (λ x e. c.in_err-path.ensures.answer x.path (ray_parts x _ e).path) }

pub returns : goal.returns
returns c =
    record {
      answer = ray_whole _ c.args.from.now c.if-from-ne-BYTES.false (record {
        surface = c.in_ok-surface.ensures.answer;
        height = c.in_ok-height.ensures.answer ∙ held c.in_ok-height.height 2 8 (search rules);
        path = c.in_ok-path.ensures.answer ∙ held c.in_ok-path.path 3 8 (search rules);
      });
    }
