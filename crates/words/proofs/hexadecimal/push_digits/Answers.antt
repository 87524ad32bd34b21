use Rattle.std.proofs.Common.{◌≡◌, ◌-◌, ◌<◌, [], ◌∷◌, ◌++◌, string_bytes, sym, ap, ◌∙◌, subst, append_assoc, append-nil, arith}
use lib.Utf8.{encode}
use Rattle.words.specs.Hexadecimals.{numeral}
use Rattle.words.proofs.Digits.{char_ascii}
use Rattle.words.proofs.Spelling.{numeral_more, numeral_none}
use Rattle.words.proofs.hexadecimal.push_digits.Goals as goal

pub loop-place-preserved : goal.loop-place-preserved
loop-place-preserved c =
    let value = c.args.value in
    let place = c.loop-place.place in
    let entry = string_bytes c.args.out.now in
    let char = c.digit_char.result in
    let front = c.loop-place.invariant.0 in
    let ascii : char < 128 = subst (λ n. n < 128) (sym c.digit_char.ensures) (char_ascii _ (omega arith)) in
    let digit : char ∷ numeral (place - 1) value ≡ numeral place value = ap (λ x. x ∷ numeral (place - 1) value) c.digit_char.ensures ∙ sym (numeral_more place value (omega arith)) in
    let before = string_bytes c.loop-place.out in
    let pushed : string_bytes c.push.new.self ≡ before ++ encode char = c.in_ok-push.ensures.bytes in (
      front ++ char ∷ [],
      append_assoc front (char ∷ []) (numeral (place - 1) value) ∙ ap (λ xs. front ++ xs) digit ∙ c.loop-place.invariant.1,
      pushed ∙ ap (λ xs. before ++ xs) (c.push.ensures.ascii ascii) ∙ ap (λ xs. xs ++ char ∷ []) c.loop-place.invariant.2 ∙ append_assoc entry front (char ∷ []),
    )

pub returns : goal.returns
returns c =
    let entry = string_bytes c.args.out.now in
    let front = c.loop-place.invariant.0 in
    let none = numeral_none c.loop-place.place c.args.value (omega arith) in
    let whole = sym (append-nil front) ∙ ap (λ xs. front ++ xs) (sym none) ∙ c.loop-place.invariant.1 in
    c.loop-place.invariant.2 ∙ ap (λ xs. entry ++ xs) whole
