use Rattle.std.proofs.Common.{◌≡◌, ◌*◌, ◌%◌, ◌^◌, ◌≤◌, arith, rules, pow_mono}
use Rattle.std.proofs.lemmas.Nat.{one_shl}
use Rattle.shape.proofs.shape.Shape.new.Goals as goal

pub invariant_of-result : goal.invariant_of-result
invariant_of-result c =
    let k = c.args.exponent in
    let low : 7 ≤ k = search rules in
    let high : k ≤ 12 = search rules in
    let power : (1 * 2 ^ k) % 18446744073709551616 ≡ 2 ^ k = one_shl k 64 (omega arith) in
    let roomy : 2 ^ 7 ≤ 2 ^ k = pow_mono low in
    let bounded : 2 ^ k ≤ 2 ^ 12 = pow_mono high in
    search rules
