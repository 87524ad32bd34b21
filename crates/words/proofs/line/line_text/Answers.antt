use Rattle.std.proofs.Common.{map, ap, ◌∙◌, rules}
use Rattle.std.proofs.lemmas.Iterator.{YieldsList-from_slice, YieldsList-from_map, text_from_collect}
use Rattle.std.proofs.lemmas.Str.{encodes-IsAscii}
use Rattle.std.proofs.lemmas.Result.{IfOk-weaker}
use Rattle.words.specs.Lines.{plain_of}
use Rattle.words.proofs.Parting.{plain_ascii}
use Rattle.words.proofs.line.line_text.Goals as goal

pub returns : goal.returns
returns c =
    let xs = c.without_return.result.now in
    let text = text_from_collect c.collect.result c.collect.ensures.ran (YieldsList-from_map _ plain_of (YieldsList-from_slice xs (cc)) (cc) (λ x r q k. search rules)) in
    record { answer = IfOk-weaker c.collect.result _ _ (λ t e. e ∙ encodes-IsAscii (map plain_of xs) (plain_ascii xs) ∙ ap (map plain_of) c.without_return.ensures) text }
