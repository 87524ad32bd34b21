use Rattle.std.proofs.Common.{◌≡◌, suc, ◌++◌, get_or, take, drop, string_bytes, sym, ap, ◌∙◌, append_assoc, false-eqb}
use Rattle.std.proofs.lemmas.List.{take_all, take_more, flat_map_more}
use Rattle.std.proofs.lemmas.Result.{err_from_is_err_and}
use Rattle.std.specs.List.{flat_map}
use Rattle.words.specs.Hexadecimals.{numeral}
use Rattle.words.proofs.Spelling.{bytes_back, all_small, spelled_some, joined_front}
use Rattle.words.proofs.hexadecimal.push_bytes.Goals as goal

pub returns-in_err-push_digits : goal.returns-in_err-push_digits
returns-in_err-push_digits c =
    let bytes = c.args.bytes.now in
    let i = c.loop-byte.byte-index in
    let entry = string_bytes c.args.out.now in
    let failed = err_from_is_err_and c.from_residual.result c.from_residual.ensures.1 in
    let part = c.in_err-push_digits.ensures in
    let before = flat_map (numeral 2) (take i bytes) in
    let digits : part.0 ++ part.1 ≡ numeral 2 c.from.result = part.2 in
    let split = joined_front (numeral 2) bytes i part.0 part.1 c.loop-byte-test.true (digits ∙ ap (numeral 2) c.from.ensures) in
    let was : string_bytes c.loop-byte.out ≡ entry ++ before = c.loop-byte.invariant in
    let out = part.3 ∙ ap (λ xs. xs ++ part.0) was ∙ append_assoc entry before part.0 in
    rw failed.1 (record {
      after = (before ++ part.0, part.1 ++ flat_map (numeral 2) (drop (suc i) bytes), split ∙ spelled_some bytes (false-eqb _ 0 c.if-is_empty.ensures), out);
      read_back = bytes_back bytes (all_small bytes c.type_inv.bytes);
    })

pub loop-byte-preserved : goal.loop-byte-preserved
loop-byte-preserved c =
    let bytes = c.args.bytes.now in
    let i = c.loop-byte.byte-index in
    let entry = string_bytes c.args.out.now in
    let byte = get_or bytes i 0 in
    let before = string_bytes c.loop-byte.out in
    let pushed : string_bytes c.push_digits.new.out ≡ before ++ numeral 2 c.from.result = c.in_ok-push_digits.ensures in
    pushed
    ∙ ap (λ n. before ++ numeral 2 n) c.from.ensures
    ∙ ap (λ xs. xs ++ numeral 2 byte) c.loop-byte.invariant
    ∙ flat_map_more (numeral 2) entry (take i bytes) byte
    ∙ ap (λ xs. entry ++ flat_map (numeral 2) xs) (sym (take_more bytes i 0 c.loop-byte-test.true))

pub returns : goal.returns
returns c =
    let bytes = c.args.bytes.now in
    let entry = string_bytes c.args.out.now in
    let whole = ap (flat_map (numeral 2)) (take_all c.loop-byte.byte-index bytes c.loop-byte-test.false) ∙ spelled_some bytes (false-eqb _ 0 c.if-is_empty.ensures) in
    record {
      after = c.loop-byte.invariant ∙ ap (λ xs. entry ++ xs) whole;
      read_back = bytes_back bytes (all_small bytes c.type_inv.bytes);
    }
