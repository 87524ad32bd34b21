-- House fields. Assumes nothing.
use Rattle.std.specs.Prelude.{ℕ, List, [], ◌∷◌, ◌++◌, length}
use Rattle.octets.specs.Octets.{octets}

-- a tag of one octet, the content's length in two, and the content
abbrev pub field : ℕ → List ℕ → List ℕ
field tag content = tag ∷ (octets 2 (length content) ++ content)

-- a tag and a length below 256
abbrev pub head : ℕ → ℕ → List ℕ
head tag size = tag ∷ 0 ∷ size ∷ []
