use Rattle.std.proofs.Common.{ap, ◌≡◌, ◌∙◌, arith, rules}
use Rattle.std.proofs.lemmas.Str.Pattern.{starts_char}
use Rattle.std.proofs.lemmas.Bool.Decides.{not_from_Decides}
use Rattle.words.specs.Decimals.{unsigned_of}
use Rattle.words.proofs.Numbers.{capped, kept, parsed_unsigned}
use Rattle.words.proofs.decimal.unsigned.Goals as goal

pub returns : goal.returns
returns c =
    let word = c.args.word.now in
    let most = c.args.most in
    let plain = not_from_Decides _ (starts_char 43 word _ c.starts_with.ensures.cases (omega arith) (omega arith)) c.if-starts_with.false in
    let read : capped most c.ok.result ≡ unsigned_of most word = ap (capped most) c.ok.ensures.value ∙ parsed_unsigned most word _ c.ranges.most.fits c.parse.ensures.value.0 plain in
    kept most c.ok.result c.filter.result _ (λ n b says. search rules) c.filter.ensures ∙ read
