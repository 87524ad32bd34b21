-- What reading an element into a lent value answers and leaves. Assumes nothing.
use Rattle.std.specs.Prelude.{◌≡◌, ℕ, List, Ok, Err, Result, ◌≢◌}
use Rattle.answers.specs.Faults.{number_of}
use Rattle.answers.specs.declared.Fault.{Fault}

-- the lent value held `before` and holds `after`: it means the octets bs if a value does, else 14 is answered and it stays
abbrev pub Takes : {X V : Type 0} → (X → List ℕ) → List ℕ → X → Result V Fault → X → Type 0
Takes meaning bs before (Ok v) after = bs ≡ meaning after
Takes {X} meaning bs before (Err e) after = ((x : X) → bs ≢ meaning x) × (number_of e ≡ 14) × (after ≡ before)
