use Rattle.std.proofs.Common.{◌≡◌, ◌*◌, ◌++◌, drop, vec_items}
use Rattle.std.specs.Option.{option_map}
use Rattle.words.specs.Hexadecimals.{pairs_of}
use Rattle.words.proofs.hexadecimal.pairs.Given as goal

-- the bytes so far, and then those of the digits that are left
abbrev pub invariant-loop-i : goal.invariant-loop-i
invariant-loop-i l = option_map (λ bs. vec_items l.bytes ++ bs) (pairs_of (drop (2 * l.i) l.digits)) ≡ pairs_of l.digits
