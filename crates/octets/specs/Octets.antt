-- Numbers as octets, high octet first (RFC 791, appendix B), and parts of a list. Assumes nothing.
use Rattle.std.specs.Prelude.{◌≡◌, ℕ, zero, suc, ◌+◌, ◌*◌, ◌/◌, ◌%◌, ◌^◌, ◌<◌, ◌≤◌, List, [], ◌∷◌, length, take, drop, Ok, Err, Option, Result, MatchOption, ◌≢◌}
use Rattle.std.specs.Simd.Lanes.{Each1}
use Rattle.std.proofs.Math.Seq.{paste}
use Rattle.answers.specs.Faults.{number_of}
use Rattle.answers.specs.declared.Fault.{Fault}

-- the number that a list of octets spells
unfoldable pub value : List ℕ → ℕ
value [] = 0
value (x ∷ xs) = x * 256 ^ length xs + value xs

-- the last k octets of a number
unfoldable pub octets : ℕ → ℕ → List ℕ
octets zero n = []
octets (suc k) n = (n / 256 ^ k % 256) ∷ octets k n

-- the k octets from the place i on
abbrev pub part : ℕ → ℕ → List ℕ → List ℕ
part i k bs = take k (drop i bs)

-- the octets os stand in the part from the place `at` on, and the rest of it stays; refused by 20 where they pass its end
abbrev pub Lays : {V : Type 0} → List ℕ → ℕ → List ℕ → Result V Fault → List ℕ → Type 0
Lays os at before (Ok v) after = (at + length os ≤ length before) × (after ≡ paste before at os (length os))
Lays os at before (Err e) after = (length before < at + length os) × (number_of e ≡ 20) × (after ≡ before)

-- what reading the octets bs answers: the value that means them, where there is one
abbrev pub Reads : {X : Type 0} → (X → List ℕ) → List ℕ → Option X → Type 0
Reads {X} meaning bs r = MatchOption r ((x : X) → bs ≢ meaning x) (λ x. bs ≡ meaning x)

-- Of every width: a number that fits is read back from its octets, and octets, read as a number, are written again.
pub record RoundTrip : Type 0 where
  pub back : (k n : ℕ) → n < 256 ^ k → value (octets k n) ≡ n
  pub again : (bs : List ℕ) → Each1 (λ b. b < 256) bs → octets (length bs) (value bs) ≡ bs
