use Rattle.std.proofs.Common.{◌≡◌, ℕ, ◌-◌, ◌^◌, List, ◌∷◌, ◌++◌, pos, None, ap, sym, ◌∙◌, arith}
use Rattle.std.proofs.lemmas.Str.{encode_ascii}
use Rattle.std.specs.Option.{option_map}
use Rattle.words.specs.Decimals.{unsigned_of}
use Rattle.words.proofs.Numbers.{signed_plain}
use Rattle.words.proofs.decimal.signed.Goals as goal

pub returns-in_err-value-in-None : goal.returns-in_err-value-in-None
returns-in_err-value-in-None c =
    let word = c.args.word.now in
    let plain = λ (rest : List ℕ) (e : word ≡ 45 ∷ rest). c.in-None.ensures.cases rest (e ∙ sym (ap (λ xs. xs ++ rest) (encode_ascii 45 (omega arith)))) in
    let unread : None ≡ unsigned_of (2 ^ 63 - 1) word = c.in_err-value-in-None.ensures in
    c.from_residual-in_err-value-in-None.ensures ∙ ap (option_map pos) unread ∙ signed_plain word plain
