-- A slab that moves its valid bytes to the front of another buffer. Assumes nothing.
use Rattle.std.proofs.Common.{◌≡◌, ℕ, ◌+◌, ◌-◌, ◌*◌, ◌<◌, ◌≤◌, List, length, take, drop, sym, ap, ◌∙◌, ap₂, arith}
use Rattle.std.proofs.Math.Seq.{paste}
use Rattle.std.proofs.lemmas.List.Edits.{length-paste}
use Rattle.std.proofs.lemmas.List.{length-drop, length-take-le}
use Rattle.pieces.specs.Pieces.{Span, Inside, bytes}
use Rattle.pieces.proofs.Regions.{in_region}
use Rattle.bytes_slab.specs.Slabs.{Slab, Region, valid_bytes}
use Rattle.bytes_slab.specs.Capacity.{Moves}
use Rattle.regions.specs.Buffers.{Sits}
use Rattle.regions.proofs.Reading.{other_buffer, written_at}

-- a slab has as many valid bytes as lie between its ends
valid_length : (s : Slab) (region : List ℕ) → Sits s → Region s region → length (valid_bytes s region) ≡ s.end - s.begin
valid_length s region sits whole =
    let e = in_region s.shape.size s.shape.buffers s.buffer s.end sits.0 sits.2 in
    let order : s.begin ≤ s.end = sits.1 in
    length-take-le (s.end - s.begin) (drop (s.buffer * s.shape.size + s.begin) region) (simp length-drop (omega arith))

module _ (b : ℕ) (s s' : Slab) (region region' : List ℕ) (sits : Sits s) (known : b < s.shape.buffers) (whole : Region s region)
    (moves : Moves b s region s' region') where
  -- the region, all valid bytes being pasted
  pasted : region' ≡ paste region (b * s.shape.size) (valid_bytes s region) (length (valid_bytes s region))
  pasted = moves.bytes ∙ ap (paste region (b * s.shape.size) (valid_bytes s region)) (sym (valid_length s region sits whole))

  -- the valid bytes fit the new buffer, which is within the region
  within : length (valid_bytes s region) ≤ s.shape.size
  within = let n = valid_length s region sits whole in let le : s.end ≤ s.shape.size = sits.2 in omega arith

  inside : b * s.shape.size + length (valid_bytes s region) ≤ length region
  inside = let e = in_region s.shape.size s.shape.buffers b (length (valid_bytes s region)) known within in omega arith

  pub valid : valid_bytes s' region' ≡ valid_bytes s region
  valid =
      let n : (s.end - s.begin) - 0 ≡ s.end - s.begin = omega arith in
      let a : b * s.shape.size + 0 ≡ b * s.shape.size = omega arith in
      ap (λ t. valid_bytes t region') moves.slab
      ∙ ap₂ (λ k i. take k (drop i region')) n a
      ∙ ap (λ xs. take (s.end - s.begin) (drop (b * s.shape.size) xs)) pasted
      ∙ written_at region (valid_bytes s region) (b * s.shape.size) inside (s.end - s.begin) (sym (valid_length s region sits whole))

  pub long : length region' ≡ length region
  long = ap length pasted ∙ length-paste region (b * s.shape.size) (valid_bytes s region) (length (valid_bytes s region)) inside (omega arith)

  pub others : (p : Span) → Inside s.shape.size s.shape.buffers p → (b ≡ p.buffer → ⊥) → bytes s.shape.size region' p ≡ bytes s.shape.size region p
  others p lies apart =
      let a : b * s.shape.size ≡ b * s.shape.size + 0 = omega arith in
      let fits : 0 + length (valid_bytes s region) ≤ s.shape.size = let le = within in omega arith in
      ap (λ xs. bytes s.shape.size xs p) (pasted ∙ ap (λ i. paste region i (valid_bytes s region) (length (valid_bytes s region))) a)
      ∙ other_buffer s.shape.size s.shape.buffers region (valid_bytes s region) b 0 p whole lies (omega arith) fits apart

pub space : (b : ℕ) (s s' : Slab) (region region' : List ℕ) (capacity : ℕ) → Moves b s region s' region' → (s.end - s.begin) + capacity ≤ s.shape.size → capacity ≤ s'.shape.size - s'.end
space b s s' region region' capacity moves le =
    let e : s'.shape.size ≡ s.shape.size = ap (λ t. t.shape.size) moves.slab in
    let f : s'.end ≡ s.end - s.begin = ap (λ t. t.end) moves.slab in
    omega arith
