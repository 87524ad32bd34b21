use Rattle.std.proofs.Common.{◌≡◌, ◌+◌, ◌*◌, [], ◌∷◌, ◌++◌, drop, Some, vec_items, sym, ap, ◌∙◌, append-nil, arith}
use Rattle.std.proofs.lemmas.List.{drop_all}
use Rattle.std.specs.Option.{option_map}
use Rattle.words.specs.Hexadecimals.{in_front, pairs_of}
use Rattle.words.proofs.Pairs.{pairs_odd, pair_at, mapped_more}
use Rattle.words.proofs.hexadecimal.pairs.Goals as goal

pub returns-then-digits-ne0 : goal.returns-then-digits-ne0
returns-then-digits-ne0 c = sym (pairs_odd c.args.digits.now c.if-digits-ne0.true)

pub returns-in_default : goal.returns-in_default
returns-in_default c =
    let digits = c.args.digits.now in
    let i = c.loop-i.i in
    let stopped = pair_at digits i (omega arith) ∙ ap (λ o. in_front o (pairs_of (drop (2 * (i + 1)) digits))) (sym c.in_default.ensures) in
    sym (ap (option_map (λ bs. vec_items c.loop-i.bytes ++ bs)) stopped) ∙ c.loop-i.invariant

pub loop-i-preserved : goal.loop-i-preserved
loop-i-preserved c =
    let digits = c.args.digits.now in
    let i = c.loop-i.i in
    let rest = pairs_of (drop (2 * (i + 1)) digits) in
    let items = vec_items c.loop-i.bytes in
    let here = pair_at digits i (omega arith) ∙ ap (λ o. in_front o rest) (sym c.in-Some.ensures) in
    let pushed : vec_items c.push.new.self ≡ items ++ c.in-Some.byte ∷ [] = c.in_ok-push.ensures.items in
    ap (λ xs. option_map (λ bs. xs ++ bs) rest) pushed
    ∙ mapped_more items c.in-Some.byte rest
    ∙ sym (ap (option_map (λ bs. items ++ bs)) here)
    ∙ c.loop-i.invariant

pub returns : goal.returns
returns c =
    let digits = c.args.digits.now in
    let items = vec_items c.loop-i.bytes in
    let none = drop_all (2 * c.loop-i.i) digits (omega arith) in
    ap Some (sym (append-nil items)) ∙ sym (ap (λ xs. option_map (λ bs. items ++ bs) (pairs_of xs)) none) ∙ c.loop-i.invariant
