-- Lines that are parted at blanks. Assumes nothing.
use Rattle.std.proofs.Common.{◌≡◌, ℕ, zero, suc, ◌<◌, false, eqb, List, [], ◌∷◌, ◌++◌, map, length, get_or, Some, None, Option, Bor, sym, refl, ap, ◌∙◌, arith}
use Rattle.std.proofs.lemmas.Bool.Decides.{nat_tests}
use Rattle.std.proofs.lemmas.Str.{encode_ascii, len_utf8_ascii}
use Rattle.std.proofs.lemmas.Str.Pattern.{IsSplitOnceResult, drop_at_char, split_parts}
use Rattle.std.specs.Option.{IfSome, unwrap_or}
use Rattle.std.specs.Str.{IsAscii}
use Rattle.std.specs.Str.Pattern.{CutsPrefixes, FindsCharPrefix}
use Rattle.std.proofs.lemmas.Bool.{ne_eqb}
use Rattle.words.specs.Lines.{pieces_of, filled, words_of, plain_of}

-- no byte is a blank
abbrev pub Unparted : List ℕ → Type 0
Unparted cs = (i : ℕ) → i < length cs → get_or cs i 0 ≡ 32 → ⊥

tail_unparted : (c : ℕ) (cs : List ℕ) → Unparted (c ∷ cs) → Unparted cs
tail_unparted c cs h i l e = h (suc i) (omega arith) e

-- the first byte of such a piece
no_blank : (c : ℕ) (cs : List ℕ) → Unparted (c ∷ cs) → eqb c 32 ≡ false
no_blank c cs h = ne_eqb c 32 (h 0 (omega arith))

pieces_last : (cs : List ℕ) → Unparted cs → pieces_of cs ≡ cs ∷ []
pieces_last [] h = refl
pieces_last (c ∷ cs) h = rw (no_blank c cs h, pieces_last cs (tail_unparted c cs h))

pieces_first : (cs rest : List ℕ) → Unparted cs → pieces_of (cs ++ (32 ∷ rest)) ≡ cs ∷ pieces_of rest
pieces_first [] rest h = refl
pieces_first (c ∷ cs) rest h = rw (no_blank c cs h, pieces_first cs rest (tail_unparted c cs h))

filled_some : (cs : List ℕ) (pieces : List (List ℕ)) → (length cs ≡ 0 → ⊥) → filled (cs ∷ pieces) ≡ cs ∷ filled pieces
filled_some [] pieces h = absurd (h refl)
filled_some (c ∷ cs) pieces h = refl

-- a word, a blank, and the rest
pub first_word : (line cs rest : List ℕ) → line ≡ cs ++ (32 ∷ rest) → Unparted cs → (length cs ≡ 0 → ⊥) → words_of line ≡ cs ∷ words_of rest
unfolding words_of
first_word line cs rest e h some = ap (λ l. filled (pieces_of l)) e ∙ ap filled (pieces_first cs rest h) ∙ filled_some cs (pieces_of rest) some

-- a blank in front
pub past_blank : (line cs rest : List ℕ) → line ≡ cs ++ (32 ∷ rest) → length cs ≡ 0 → words_of line ≡ words_of rest
unfolding words_of
past_blank line [] rest e none = ap (λ l. filled (pieces_of l)) e
past_blank line (c ∷ cs) rest e none = absurd (omega arith)

-- a line with no blank
pub last_word : (line : List ℕ) → Unparted line → (length line ≡ 0 → ⊥) → words_of line ≡ line ∷ words_of []
unfolding words_of
last_word line h some = ap filled (pieces_last line h) ∙ filled_some line [] some

pub no_words : (line : List ℕ) → length line ≡ 0 → words_of line ≡ []
unfolding words_of
no_words [] h = refl
no_words (c ∷ cs) h = absurd (omega arith)

-- blanks that were cut off the front
pub past_blanks : (ns line rest : List ℕ) → CutsPrefixes (FindsCharPrefix 32) line ns rest → words_of line ≡ words_of rest
past_blanks [] line rest h = ap words_of (sym h)
past_blanks (n ∷ ns) line rest h =
    past_blanks ns line h.0 h.1 ∙ past_blank h.0 [] rest (drop_at_char 32 h.0 0 n h.2 (omega arith) ∙ ap (λ xs. 32 ∷ xs) (sym h.3)) refl

-- no blank is left there
pub no_blank_first : (line cs : List ℕ) (o : Option ℕ) → FindsCharPrefix 32 line o → IfSome o (λ n. n ≡ 0) → line ≡ 32 ∷ cs → ⊥
no_blank_first line cs None h empty e = h cs (e ∙ sym (ap (λ xs. xs ++ cs) (encode_ascii 32 (omega arith))))
no_blank_first line cs (Some n) h empty e = omega (arith, h.ends, empty, len_utf8_ascii 32 (omega arith))

first_filled : (line cs rest : List ℕ) → line ≡ cs ++ (32 ∷ rest) → (line ≡ 32 ∷ rest → ⊥) → length cs ≡ 0 → ⊥
first_filled line [] rest e plain none = plain e
first_filled line (c ∷ cs) rest e plain none = omega (arith, none)

-- a line that is parted at its first blank, where it has one
pub first_part : (line : List ℕ) (o : Option (Bor (List ℕ) × Bor (List ℕ))) (whole : Bor (List ℕ) × Bor (List ℕ)) → IsSplitOnceResult 32 line o → whole.0.now ≡ line → whole.1.now ≡ [] → (length line ≡ 0 → ⊥) → ((cs : List ℕ) → line ≡ 32 ∷ cs → ⊥) → words_of line ≡ (unwrap_or o whole).0.now ∷ words_of (unwrap_or o whole).1.now
first_part line None whole h all none some plain =
    last_word line (split_parts 32 line None h (omega arith)) some ∙ ap (λ xs. xs ∷ words_of []) (sym all) ∙ ap (λ xs. whole.0.now ∷ words_of xs) (sym none)
first_part line (Some p) whole h all none some plain =
    let parts = split_parts 32 line (Some p) h (omega arith) in
    first_word line p.0.now p.1.now parts.0 parts.1 (first_filled line p.0.now p.1.now parts.0 (plain p.1.now))

-- a text of ASCII alone
pub plain_ascii : (cs : List ℕ) → IsAscii (map plain_of cs)
plain_ascii [] i = omega arith
plain_ascii (c ∷ cs) zero = grind (arith, nat_tests)
plain_ascii (c ∷ cs) (suc i) = plain_ascii cs i
