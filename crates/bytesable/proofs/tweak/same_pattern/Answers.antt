use Rattle.std.proofs.Common.{◌≡◌, T, eqb, sym, ap, ◌∙◌, subst}
use Rattle.std.proofs.lemmas.Bool.Decides.{Decides-like, Decides-eqb}
use Rattle.octets.specs.Octets.{octets}
use Rattle.octets.specs.Patterns.{pattern_of}
use Rattle.octets.proofs.Floats.{pattern_of_lem, pattern_lt}
use Rattle.octets.proofs.Spelling.{octets_same}
use Rattle.bytesable.proofs.tweak.same_pattern.Goals as goal

pub returns : goal.returns
returns c =
    let a = c.args.a in
    let b = c.args.b in
    let pa : c.f64_to_bits_with_nan.result ≡ pattern_of a = c.f64_to_bits_with_nan.ensures ∙ sym (pattern_of_lem a (subst T (sym c.well_formed.0.1) tt)) in
    let pb : c.f64_to_bits_with_nan-2.result ≡ pattern_of b = c.f64_to_bits_with_nan-2.ensures ∙ sym (pattern_of_lem b (subst T (sym c.well_formed.1.0.1) tt)) in
    Decides-like (eqb c.f64_to_bits_with_nan.result c.f64_to_bits_with_nan-2.result)
    (λ e. ap (octets 8) (sym pa ∙ e ∙ pb))
    (λ e. pa ∙ octets_same 8 (pattern_lt a) (pattern_lt b) e ∙ sym pb)
    (Decides-eqb _ _)
