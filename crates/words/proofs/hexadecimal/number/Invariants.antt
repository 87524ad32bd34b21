use Rattle.std.proofs.Common.{◌≡◌, ◌^◌, ◌<◌, drop}
use Rattle.words.specs.Hexadecimals.{number_of}
use Rattle.words.proofs.Digits.{read_on}
use Rattle.words.proofs.hexadecimal.number.Given as goal

-- the digits that are left, behind the value so far, spell the number
abbrev pub invariant-loop-c : goal.invariant-loop-c
invariant-loop-c l = (l.value < 16 ^ l.c-index) × (read_on l.value (drop l.c-index l.digits) ≡ number_of l.digits)
