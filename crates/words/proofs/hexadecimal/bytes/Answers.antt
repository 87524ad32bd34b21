use Rattle.std.proofs.Common.{[], ◌∷◌, sym, ap, ◌∙◌, false-eqb}
use Rattle.std.proofs.lemmas.Result.{IfOk-weaker}
use Rattle.std.proofs.lemmas.Bool.Decides.{not_from_Decides}
use Rattle.std.proofs.lemmas.Slice.Eq.{bytes_eq-Decides}
use Rattle.words.specs.Hexadecimals.{pairs_of}
use Rattle.words.proofs.Pairs.{word_of_pairs}
use Rattle.words.proofs.hexadecimal.bytes.Goals as goal

pub returns : goal.returns
returns c =
    let word = c.args.word.now in
    let same = ap pairs_of c.as_bytes.ensures.value ∙ word_of_pairs word (false-eqb _ 0 c.if-is_empty.ensures) (not_from_Decides _ (bytes_eq-Decides word (45 ∷ [])) (sym c.eq.ensures ∙ c.if-eq.false)) in
    IfOk-weaker c.pairs.result _ _ (λ o e. e ∙ same) c.pairs.ensures
