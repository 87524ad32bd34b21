use Rattle.std.proofs.Common.{◌≡◌, ℕ, List, ◌∷◌, refl, sym, ◌∙◌, eqb-true, false-eqb}
use Rattle.words.proofs.Parting.{first_part, no_blank_first, no_words, past_blanks}
use Rattle.words.proofs.line.next_word.Goals as goal

pub returns-then-is_empty : goal.returns-then-is_empty
returns-then-is_empty c =
    let trimmed = c.trim_start_matches-line.ensures.matches in
    record { answer = past_blanks trimmed.0.0 c.args.line.now c.trim_start_matches-line.result.now trimmed.0.1 ∙ no_words _ (eqb-true _ 0 (sym c.if-is_empty.ensures)) }

pub returns : goal.returns
returns c =
    let trimmed = c.trim_start_matches-line.ensures.matches in
    let rest = c.trim_start_matches-line.result.now in
    let plain = λ (cs : List ℕ) (e : rest ≡ 32 ∷ cs). no_blank_first rest cs trimmed.1.0 trimmed.1.1 trimmed.1.2 e in
    record {
      answer = rw c.unwrap_or.ensures
          (past_blanks trimmed.0.0 c.args.line.now rest trimmed.0.1 ∙ first_part rest c.split_once.result _ c.split_once.ensures.cases refl refl (false-eqb _ 0 c.if-is_empty.ensures) plain);
    }
