-- House fields within a list. Assumes nothing.
use Rattle.std.proofs.Common.{◌≡◌, ℕ, suc, ◌+◌, ◌^◌, ◌<◌, List, [], ◌∷◌, ◌++◌, length, take, drop, Some, None, Option, sym, ap, ◌∙◌, arith, length-append, drop-drop}
use Rattle.octets.specs.Octets.{octets, part, Reads}
use Rattle.octets.proofs.Parts.{cut}
use Rattle.octets.proofs.Spelling.{octets_same, length-octets}
use Rattle.bytesable.specs.Fields.{head}

-- a list that begins with three octets
split_3 : (l : List ℕ) (w a b c : ℕ) (os : List ℕ) → take (suc (suc (suc w))) l ≡ a ∷ b ∷ c ∷ os → (take 3 l ≡ a ∷ b ∷ c ∷ []) × (take w (drop 3 l) ≡ os)
split_3 [] w a b c os e = let n : 0 ≡ length (a ∷ b ∷ c ∷ os) = ap length e in absurd (omega arith)
split_3 (x ∷ []) w a b c os e = let n : 1 ≡ length (a ∷ b ∷ c ∷ os) = ap length e in absurd (omega arith)
split_3 (x ∷ y ∷ []) w a b c os e = let n : 2 ≡ length (a ∷ b ∷ c ∷ os) = ap length e in absurd (omega arith)
split_3 (x ∷ y ∷ z ∷ l) w a b c os e = (ap (take 3) e, ap (drop 3) e)

-- a field is its tag and length, and its content behind them
pub field_parts : (bs : List ℕ) (i w t s : ℕ) (os : List ℕ) → part i (3 + w) bs ≡ head t s ++ os → (part i 3 bs ≡ head t s) × (part (i + 3) w bs ≡ os)
field_parts bs i w t s os e =
    let three : suc (suc (suc w)) ≡ 3 + w = omega arith in
    let p = split_3 (drop i bs) w t 0 s os (ap (λ n. take n (drop i bs)) three ∙ e) in
    (p.0, ap (take w) (sym (drop-drop 3 i bs)) ∙ p.1)

pub field_whole : (bs : List ℕ) (i w t s : ℕ) (os : List ℕ) → part i 3 bs ≡ head t s → part (i + 3) w bs ≡ os → part i (3 + w) bs ≡ head t s ++ os
field_whole bs i w t s os p q = cut bs i 3 w p q

-- behind a tag and a length the field is read as its content is
pub field_read : {X : Type 0} (bs : List ℕ) (i w t s : ℕ) (m : X → List ℕ) (r : Option X) → part i 3 bs ≡ head t s → Reads m (part (i + 3) w bs) r → Reads (λ x. head t s ++ m x) (part i (3 + w) bs) r
field_read bs i w t s m None p none = λ x e. none x (field_parts bs i w t s (m x) e).1
field_read bs i w t s m (Some x) p q = field_whole bs i w t s (m x) p q

-- fields of one number tell it
pub same_content : (k t s : ℕ) {m n : ℕ} → m < 256 ^ k → n < 256 ^ k → head t s ++ octets k m ≡ head t s ++ octets k n → m ≡ n
same_content k t s f g e = octets_same k f g (ap (drop 3) e)

pub length-field : (k t s n : ℕ) → length (head t s ++ octets k n) ≡ 3 + k
length-field k t s n = length-append (head t s) (octets k n) ∙ ap (λ m. 3 + m) (length-octets k n)
