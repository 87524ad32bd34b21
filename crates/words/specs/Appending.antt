-- What a call that appends to a text leaves of it. Assumes nothing.
use Rattle.std.specs.Prelude.{◌≡◌, ℕ, List, ◌++◌, Ok, Err, Result}

-- the bytes xs stand behind those of before; where memory failed, some front of xs does
abbrev pub Appends : {T E : Type 0} → List ℕ → List ℕ → Result T E → List ℕ → Type 0
Appends xs before (Ok done) after = after ≡ before ++ xs
Appends xs before (Err refused) after = (front : List ℕ) × (rest : List ℕ) × (front ++ rest ≡ xs) × (after ≡ before ++ front)
