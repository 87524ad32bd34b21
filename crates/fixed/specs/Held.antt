-- What a table holds, front first. Assumes nothing.
use Rattle.std.specs.Prelude.{◌≡◌, ℕ, ◌<◌, List, [], ◌∷◌, ◌++◌, length, take, Ok, Err, Result}
use Rattle.fixed.specs.declared.Fixed.{Fixed}

abbrev pub held : {T : Type 0} {N : ℕ} → Fixed T N → List T
held f = take f.len f.items

-- one value more at the back of a table of n places; where there is none, the value is given back and all stays
abbrev pub Pushes : {T U : Type 0} → ℕ → T → List T → Result U T → List T → Type 0
Pushes n x before (Ok u) after = (length before < n) × (after ≡ before ++ x ∷ [])
Pushes n x before (Err y) after = (length before ≡ n) × (y ≡ x) × (after ≡ before)
