-- The bounds of a link's figures, and the answer to figures out of bounds. Assumes nothing.
use Rattle.std.specs.Prelude.{◌≡◌, ℕ, ◌+◌, ◌-◌, ◌^◌, ◌<◌, ◌≤◌, cond, ◌&&◌, Some, None, Option, Result, MatchResult, nat_le, nat_lt}
use Rattle.answers.specs.Faults.{number_of}
use Rattle.answers.specs.declared.Fault.{Fault}
use Rattle.shape.specs.declared.shape.Shape.{Shape}
use Rattle.shape.specs.declared.shape.Sources.{Sources}
use Rattle.shape.specs.declared.shape.Targets.{Targets}

-- what is made of figures in bounds, and the number 1 where they are not
abbrev pub Made : {X : Type 0} → Type 0 → (X → Type 0) → Result X Fault → Type 0
Made bounds is r = MatchResult r (λ x. bounds × is x) (λ f. (bounds → ⊥) × (number_of f ≡ 1))

-- a region of buffers of 2 ^ k bytes
abbrev pub ShapeOf : ℕ → ℕ → Result Shape Fault → Type 0
ShapeOf k buffers =
    Made ((7 ≤ k) × (k ≤ 12) × (2 ≤ buffers) × (buffers ≤ 16))
    (λ s. (s.exponent ≡ k) × (s.size ≡ 2 ^ k) × (s.buffers ≡ buffers))

-- sources over a region
abbrev pub SourcesOf : Shape → ℕ → Result Sources Fault → Type 0
SourcesOf shape count =
    Made ((1 ≤ count) × (count ≤ 4) × (count + 2 ≤ shape.buffers))
    (λ s. (s.shape ≡ shape) × (s.count ≡ count))

-- targets from a first index on
abbrev pub TargetsOf : ℕ → ℕ → Result Targets Fault → Type 0
TargetsOf first count =
    Made ((first ≤ 65535) × (1 ≤ count) × (count ≤ 4))
    (λ t. (t.first ≡ first) × (t.count ≡ count))

-- the indices from lower to upper - 1 are some, and all are targets'
abbrev pub Covers : Targets → ℕ → ℕ → Type 0
Covers t lower upper = (lower < upper) × (t.first ≤ lower) × (upper ≤ t.first + t.count)

-- the place of a target among all
abbrev pub place : Targets → ℕ → Option ℕ
place t index = cond (nat_le t.first index && nat_lt index (t.first + t.count)) (Some (index - t.first)) None
