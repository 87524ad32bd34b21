use Rattle.std.proofs.Common.{rules, ◌≡◌, ◌-◌, ◌+◌, ◌++◌, min, true, false, ◌∙◌, ap₂, refl, arith}
use Rattle.std.specs.List.{find, range_with_len}
use Rattle.std.proofs.lemmas.Iterator.{YieldsList-from_range, first_from_find}
use Rattle.std.proofs.lemmas.Iterator.Consumers.{YieldsList-from_chain}
use Rattle.pieces.specs.Free.{buffers, is_free}
use Rattle.pieces.proofs.Found.{first_found, range_capped}
use Rattle.pieces.proofs.free.FreeBuffers.next_after.Goals as goal

pub returns-clause-answer : goal.returns-clause-answer
returns-clause-answer c =
    let p = is_free c.args.self.now in
    let n = buffers c.args.self.now in
    let s = c.saturating_add.result in
    let m = c.buffers-buffers.result in
    let k = c.min.result in
    let found = first_from_find _ _ _ (λ x. p x ≡ true) (λ x. p x ≡ false) c.find.ensures.ran
    (YieldsList-from_chain (YieldsList-from_range s m (m - s) (cc) refl) (YieldsList-from_range 0 k k (cc) (omega arith)) (cc) (cc))
    (λ x q e. search rules) (λ x q e. search rules) in
    let above = ap₂ (λ a b. range_with_len a (b - a)) c.saturating_add.ensures c.buffers-buffers.ensures.answer ∙ range_capped (c.args.own + 1) n 18446744073709551615 (omega arith) in
    let below : k ≡ min c.args.own n = omega arith in
    first_found p _ _ found ∙ ap₂ (λ xs j. find p (xs ++ range_with_len 0 j)) above below
