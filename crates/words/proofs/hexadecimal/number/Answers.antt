use Rattle.std.proofs.Common.{◌≡◌, ◌^◌, ◌<◌, length, get_or, Some, sym, ap, ◌∙◌, subst, arith, rules}
use Rattle.words.specs.Hexadecimals.{digit_of}
use Rattle.words.proofs.Digits.{digit_lt, read_more, read_stop, read_all, room, more_digits}
use Rattle.words.proofs.hexadecimal.number.Goals as goal
use Rattle.words.proofs.hexadecimal.number.Goals.{After-from}

-- the digit of this turn
digit : (c : After-from) → digit_of (get_or c.args.digits.now c.loop-c.c-index 0) ≡ Some c.from.result
digit c = sym c.in_ok-digit_value.ensures ∙ ap Some (sym c.from.ensures)

low : (c : After-from) → c.from.result < 16
low c = digit_lt (get_or c.args.digits.now c.loop-c.c-index 0) c.from.result (digit c)

pub overflow_mul-value : goal.overflow_mul-value
overflow_mul-value c = let r = room c.loop-c.value c.loop-c.c-index c.loop-c.invariant.0 (omega arith) in search rules

pub overflow_add-value : goal.overflow_add-value
overflow_add-value c =
    let r = room c.loop-c.value c.loop-c.c-index c.loop-c.invariant.0 (omega arith) in
    let d = low (goal.at.overflow_add-value c).After-from in
    search rules

pub returns-in_err-digit_value : goal.returns-in_err-digit_value
returns-in_err-digit_value c =
    let stopped = sym (read_stop _ _ _ c.loop-c-test.true (sym c.in_err-digit_value.ensures)) ∙ c.loop-c.invariant.1 in
    rw c.from_residual.ensures (record { answer = stopped; bound = tt })

pub loop-c-preserved : goal.loop-c-preserved
loop-c-preserved c =
    let here = (goal.at.loop-c-preserved c).After-from in (
      more_digits _ _ _ c.loop-c.invariant.0 (low here),
      sym (read_more _ _ _ _ c.loop-c-test.true (digit here)) ∙ c.loop-c.invariant.1,
    )

pub returns : goal.returns
returns c =
    let all : c.loop-c.c-index ≡ length c.args.digits.now = omega arith in
    record {
      answer = sym (read_all _ _ _ c.loop-c-test.false) ∙ c.loop-c.invariant.1;
      bound = subst (λ n. c.loop-c.value < 16 ^ n) all c.loop-c.invariant.0;
    }
