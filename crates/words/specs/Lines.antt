-- The words of a line. Assumes nothing.
use Rattle.std.specs.Prelude.{ℕ, ◌-◌, cond, List, [], ◌∷◌, map, length, take, ◌==◌, nat_lt, slice_index}

-- a byte in front of the first piece
abbrev pub onto : ℕ → List (List ℕ) → List (List ℕ)
onto c [] = (c ∷ []) ∷ []
onto c (piece ∷ pieces) = (c ∷ piece) ∷ pieces

-- what stands before, between and behind the blanks
abbrev pub pieces_of : List ℕ → List (List ℕ)
pieces_of [] = [] ∷ []
pieces_of (c ∷ cs) = cond (c == 32) ([] ∷ pieces_of cs) (onto c (pieces_of cs))

-- the pieces that are not empty
abbrev pub filled : List (List ℕ) → List (List ℕ)
filled [] = []
filled ([] ∷ pieces) = filled pieces
filled ((c ∷ piece) ∷ pieces) = (c ∷ piece) ∷ filled pieces

-- the words of a line
unfoldable pub words_of : List ℕ → List (List ℕ)
words_of cs = filled (pieces_of cs)

-- a byte as text: a question mark where it is no ASCII
abbrev pub plain_of : ℕ → ℕ
plain_of c = cond (nat_lt c 128) c 63

-- a line without a carriage return at its end
abbrev pub unreturned : List ℕ → List ℕ
unreturned cs = cond (slice_index cs (length cs - 1) == 13) (take (length cs - 1) cs) cs

-- the text of a line
abbrev pub text_of : List ℕ → List ℕ
text_of cs = map plain_of (unreturned cs)
