use Rattle.std.proofs.Common.{true, false, refl}
use Rattle.bytesable.proofs.TweakLaws.{thickness_spelled, index_spelled, decides_as, decides_single, decides_tilt, decides_not_tilt, apart_thickness, apart_tilt, apart_index}
use Rattle.bytesable.proofs.tweak.TweakBytesable.same.Goals as goal

pub returns-in-Thickness-Thickness : goal.returns-in-Thickness-Thickness
returns-in-Thickness-Thickness c =
    let t = c.in-Thickness-Thickness in
    record { answer = decides_as c.same_pattern.result t.is-0 t.is-1 (decides_single c.same_pattern.result 16 _ _ _ _ (thickness_spelled t.a) (thickness_spelled t.b) c.same_pattern.ensures) }

pub returns-then-same_pattern : goal.returns-then-same_pattern
returns-then-same_pattern c =
    let t = c.in-Tilt-Tilt in
    record { answer = decides_as c.same_pattern-then-same_pattern.result t.is-0 t.is-1 (decides_tilt true c.same_pattern-then-same_pattern.result t.a t.b t.c t.d c.if-same_pattern.ensures c.same_pattern-then-same_pattern.ensures) }

pub returns-else-same_pattern : goal.returns-else-same_pattern
returns-else-same_pattern c =
    let t = c.in-Tilt-Tilt in
    record { answer = decides_as c.same_pattern-in-Tilt-Tilt.result t.is-0 t.is-1 (decides_not_tilt c.same_pattern-in-Tilt-Tilt.result t.a t.b t.c t.d c.if-same_pattern.false c.same_pattern-in-Tilt-Tilt.ensures) }

pub returns-in-Index-Index : goal.returns-in-Index-Index
returns-in-Index-Index c =
    let t = c.in-Index-Index in
    record { answer = decides_as c.same_pattern-in-Index-Index.result t.is-0 t.is-1 (decides_single c.same_pattern-in-Index-Index.result 18 _ _ _ _ (index_spelled t.a) (index_spelled t.b) c.same_pattern-in-Index-Index.ensures) }

pub returns-in_default : goal.returns-in_default
returns-in_default c = record { answer = decides_as false c.in_default.is-0 refl (apart_thickness c.in_default.field-0-0 c.args.other.now c.in_default.not-Thickness-1) }

pub returns-in_default-2 : goal.returns-in_default-2
returns-in_default-2 c = record { answer = decides_as false c.in_default.is-0 refl (apart_tilt c.in_default.field-0-0 c.in_default.field-1-0 c.args.other.now c.in_default.not-Tilt-1) }

pub returns-in_default-3 : goal.returns-in_default-3
returns-in_default-3 c = record { answer = decides_as false c.in_default.is-0 refl (apart_index c.in_default.field-0-0 c.args.other.now c.in_default.not-Index-1) }
