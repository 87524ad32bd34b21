use Rattle.std.proofs.Common.{◌≡◌, ℕ, List, ◌++◌, string_bytes}
use Rattle.words.specs.Hexadecimals.{numeral}
use Rattle.words.proofs.hexadecimal.push_digits.Given as goal

-- the digits so far stand behind, and those below the place are to come
abbrev pub invariant-loop-place : goal.invariant-loop-place
invariant-loop-place l = (front : List ℕ) × (front ++ numeral l.place l.value ≡ numeral l.count l.value) × (string_bytes l.out ≡ string_bytes l.initial.out ++ front)
