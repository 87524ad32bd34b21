-- What `parse` reads, in the words of `specs.Decimals`. Assumes nothing.
use Rattle.std.proofs.Common.{◌≡◌, ℕ, ◌-◌, ◌^◌, ◌<◌, ◌≤◌, Bool, true, false, cond, ◌&&◌, leb, List, [], ◌∷◌, length, get_or, pos, Some, None, Ok, Err, Option, Result, sym, refl, ap, ◌∙◌, ⊎_elim, arith, rules}
use Rattle.std.proofs.lemmas.Str.Parse.{IsNumeralModel, numerals_by_weight, parse_plain}
use Rattle.std.proofs.lemmas.Bool.{and_parts, and_from, leb-true, ltb-true, le-leb, lt-leb, lt-ltb, cases_lt, cases_Bool, ne_eqb, cond-true, cond-false}
use Rattle.std.specs.Result.{OkIff, result_ok}
use Rattle.std.specs.Bool.{then_some}
use Rattle.std.specs.Option.{MatchOption, option_map}
use Rattle.std.specs.Str.Parse.{ParsesUnsigned}
use Rattle.std.specs.Str.{all_ascii_digits}
use Rattle.words.specs.Decimals.{digits_value, is_number, unsigned_of, signed_of}

-- the digits and the value are those of `parse`
own : IsNumeralModel (λ cs. all_ascii_digits cs ≡ true) digits_value
own = numerals_by_weight _ (search rules) digits_value (search rules)

-- the test of `unsigned_of`
abbrev Fit : ℕ → List ℕ → Type 0
Fit most cs = (all_ascii_digits cs ≡ true) × (0 < length cs) × (digits_value cs ≤ most)

fit : (most : ℕ) (cs : List ℕ) → Fit most cs → unsigned_of most cs ≡ Some (digits_value cs)
fit most cs f = cond-true _ _ _ (and_from _ _ (and_from _ _ (lt-ltb 0 (length cs) f.1) f.0) (le-leb (digits_value cs) most f.2))

unfit : (most : ℕ) (cs : List ℕ) → (Fit most cs → ⊥) → unsigned_of most cs ≡ None
unfit most cs no_fit =
    ⊎_elim
    (λ e. absurd (let t = and_parts _ _ e in let s = and_parts _ _ t.0 in no_fit (s.1, ltb-true 0 (length cs) s.0, leb-true (digits_value cs) most t.1)))
    (λ e. cond-false _ _ _ e)
    (cases_Bool (is_number cs && leb (digits_value cs) most))

-- a conversion that succeeds just where the number fits
converted : {A E : Type 0} (f : ℕ → A) (most : ℕ) (cs : List ℕ) (r : Result A E) (P : Type 0) → (P → Fit most cs) → (Fit most cs → P) → OkIff r P (f (digits_value cs)) → result_ok r ≡ option_map f (unsigned_of most cs)
converted f most cs (Ok n) P to from h = ap Some h.1 ∙ sym (ap (option_map f) (fit most cs (to h.0)))
converted f most cs (Err e) P to from h = sym (ap (option_map f) (unfit most cs (λ p. h (from p))))

-- a smaller bound on a number in hand
abbrev pub capped : ℕ → Option ℕ → Option ℕ
capped most None = None
capped most (Some n) = cond (leb n most) (Some n) None

capped_if : (b : Bool) (n high most : ℕ) → most ≤ high → capped most (option_map (λ x. x) (cond (b && leb n high) (Some n) None)) ≡ cond (b && leb n most) (Some n) None
capped_if true n high most small =
    ⊎_elim
    (λ past. rw (lt-leb n high past, lt-leb n most (omega arith)))
    (λ low. rw (le-leb n high low))
    (cases_lt high n)
capped_if false n high most small = refl

-- a word that begins with no plus
pub parsed_unsigned : {E : Type 0} (most : ℕ) (cs : List ℕ) (r : Result ℕ E) → most < 2 ^ 64 → ParsesUnsigned 64 10 cs r → (get_or cs 0 0 ≡ 43 → ⊥) → capped most (result_ok r) ≡ unsigned_of most cs
parsed_unsigned most cs r small h plain =
    ap (capped most) (converted (λ x. x) (2 ^ 64 - 1) cs r _ (λ p. (p.0, p.1, omega arith)) (λ p. (p.0, p.1, omega arith)) (parse_plain own 64 cs r h plain))
    ∙ capped_if (is_number cs) (digits_value cs) (2 ^ 64 - 1) most (omega arith)

-- a word with no minus
pub signed_plain : (cs : List ℕ) → ((rest : List ℕ) → cs ≡ 45 ∷ rest → ⊥) → option_map pos (unsigned_of (2 ^ 63 - 1) cs) ≡ signed_of cs
signed_plain [] plain = refl
signed_plain (c ∷ cs) plain = sym (cond-false _ _ _ (ne_eqb c 45 (λ e. plain cs (ap (λ x. x ∷ cs) e))))

then_cond : (b : Bool) (n : ℕ) → then_some b n ≡ cond b (Some n) None
then_cond true n = refl
then_cond false n = refl

-- a number that is kept where it is at most `most`
pub kept : (most : ℕ) (o r : Option ℕ) (Says : ℕ → Bool → Type 0) → ((n : ℕ) (b : Bool) → Says n b → b ≡ leb n most) → MatchOption o (r ≡ None) (λ n. (b : Bool) × Says n b × (r ≡ then_some b n)) → r ≡ capped most o
kept most None r Says test h = h
kept most (Some n) r Says test h = h.2 ∙ ap (λ b. then_some b n) (test n h.0 h.1) ∙ then_cond (leb n most) n
