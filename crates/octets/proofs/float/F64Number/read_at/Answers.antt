use Rattle.std.proofs.Common.{◌^◌, ◌<◌, sym, ap, ◌∙◌, rules}
use Rattle.octets.specs.Octets.{octets}
use Rattle.octets.specs.Patterns.{pattern_of}
use Rattle.octets.proofs.Floats.{pattern_lt, taken_back, not_taken}
use Rattle.octets.proofs.Spelling.{octets_same}
use Rattle.octets.proofs.float.F64Number.read_at.Goals as goal

pub returns-then-pattern-ne-NOT_A_NUMBER : goal.returns-then-pattern-ne-NOT_A_NUMBER
returns-then-pattern-ne-NOT_A_NUMBER c =
    let read = c.in_ok-pattern.ensures.answer in
    let small : c.in_ok-pattern.pattern < 2 ^ 64 = search rules in
    record {
      answer = λ x e. not_taken c.in_ok-pattern.pattern x c.if-pattern-gt-INFINITY.true c.if-pattern-ne-NOT_A_NUMBER.true (octets_same 8 (pattern_lt x) small (sym e ∙ read));
    }

pub returns : goal.returns
returns c =
    let read = c.in_ok-pattern.ensures.answer in
    let small : c.in_ok-pattern.pattern < 2 ^ 64 = search rules in
    record {
      answer = read ∙ ap (octets 8) (sym (taken_back c.in_ok-pattern.pattern small c.else-pattern-gt-INFINITY.either) ∙ ap pattern_of (sym c.f64_from_bits_with_nan.ensures));
    }
