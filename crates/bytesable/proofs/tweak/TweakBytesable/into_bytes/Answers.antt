use Rattle.std.proofs.Common.{sym, ap, ◌∙◌}
use Rattle.bytesable.specs.Tweaks.{tweak_octets}
use Rattle.bytesable.proofs.TweakLaws.{fills_as, thickness_spelled, index_spelled}
use Rattle.bytesable.proofs.tweak.TweakBytesable.into_bytes.Goals as goal

pub returns-in-Thickness : goal.returns-in-Thickness
returns-in-Thickness c = record { after = fills_as c.args.out.now c.fill_single.result c.fill_single.new.out (thickness_spelled c.in-Thickness.thickness ∙ ap tweak_octets (sym c.in-Thickness.is)) c.fill_single.ensures }

pub returns-in-Index : goal.returns-in-Index
returns-in-Index c = record { after = fills_as c.args.out.now c.fill_single-in-Index.result c.fill_single-in-Index.new.out (index_spelled c.in-Index.index ∙ ap tweak_octets (sym c.in-Index.is)) c.fill_single-in-Index.ensures }
