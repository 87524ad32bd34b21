use Rattle.std.proofs.Common.{◌≡◌, ◌^◌, ◌<◌, ◌/◌, ◌%◌, [], get_or, take, ap, sym, ◌∙◌, arith, rules}
use Rattle.std.proofs.Output.{has_written_append, has_written_of_eq}
use Rattle.std.proofs.lemmas.List.{flat_map_more, take_more}
use Rattle.std.specs.List.{flat_map}
use Rattle.words.specs.Hexadecimals.{numeral}
use Rattle.words.proofs.Spelling.{byte_digits, digit_text}
use Rattle.words.proofs.hexadecimal.HexBytesDisplay.fmt.Goals as goal

pub loop-byte-preserved : goal.loop-byte-preserved
loop-byte-preserved g c = λ plain.
    let bytes = c.args.self.now.0.now in
    let i = c.loop-byte.byte-index in
    let byte = get_or bytes i 0 in
    let fits : byte < 2 ^ 8 = search rules in
    let wide = c.from-byte.result in
    let same : wide ≡ byte = c.from-byte.ensures in
    let high = digit_text c.digit_char.result (wide / 16) c.encode_utf8.result.now c.encode_utf8.ensures.value c.digit_char.ensures (omega (arith, same)) in
    let low = digit_text c.digit_char-in-loop-byte.result (wide % 16) c.encode_utf8-in-loop-byte.result.now c.encode_utf8-in-loop-byte.ensures.value c.digit_char-in-loop-byte.ensures (omega arith) in
    let text = byte_digits byte wide _ _ same (omega (arith, fits)) high low in
    let joined = flat_map_more (numeral 2) [] (take i bytes) byte ∙ ap (flat_map (numeral 2)) (sym (take_more bytes i 0 c.loop-byte-test.true)) in
    let before = c.loop-byte.invariant plain in
    let first = c.in_ok-write_str.ensures.writes before.plain (search rules) in
    let second = c.in_ok-write_str-2.ensures.writes first.plain (search rules) in
    has_written_of_eq _ _ _ _ _ joined (has_written_append _ _ _ _ _ _ before (has_written_of_eq _ _ _ _ _ text (has_written_append _ _ _ _ _ _ first second)))
