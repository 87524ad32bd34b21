-- What the words of a message line spell. Assumes nothing.
use Rattle.std.specs.Prelude.{◌≡◌, ℕ, ◌-◌, ◌^◌, ◌<◌, List, [], ◌∷◌, length, Some, None, Ok, Err, Option, Result, IsSomeAnd, ⊤, from_bits, Float}
use Rattle.std.specs.Float.{binary64}
use Rattle.std.specs.Option.{option_map}
use Rattle.answers.specs.Faults.{number_of as fault_number}
use Rattle.networking.specs.declared.header.MessageHeader.{MessageHeader}
use Rattle.words.specs.Decimals.{unsigned_of, signed_of}
use Rattle.words.specs.Hexadecimals.{bytes_of, pattern_of}
use Rattle.bytesable.specs.Blocks.{block_octets}
use Rattle.bytesable.specs.Rays.{ray_octets}
use Rattle.bytesable.specs.Tweaks.{tweak_octets}
use Rattle.bytesable.specs.declared.tweak.Tweak.TheVariants.{Thickness, Tilt, Index}
use Rattle.script.specs.Names.{form_of}
use Rattle.script.specs.declared.element.Form.{Form}
use Rattle.script.specs.declared.element.Form.TheVariants as form
use Rattle.script.specs.declared.element.Element.{Element}
use Rattle.script.specs.declared.element.Element.TheVariants as element
use Rattle.script.specs.declared.stop.Stop.{Stop}
use Rattle.script.specs.declared.stop.Stop.TheVariants as stop

-- the octets that an element means
abbrev pub element_octets : Element → List ℕ
element_octets (element.Ray r) = ray_octets r
element_octets (element.Tweak t) = tweak_octets t
element_octets (element.Block b) = block_octets b

-- a value and what follows from it, where there is one
abbrev pub given : {A B : Type 0} → Option A → (A → Option B) → Option B
given None f = None
given (Some x) f = f x

-- a 64-bit number, and the words behind it
abbrev pub number_of : List (List ℕ) → Option (ℕ × List (List ℕ))
number_of [] = None
number_of (w ∷ ws) = option_map (λ n. (n, ws)) (unsigned_of (2 ^ 64 - 1) w)

-- channel, source, range and sequence number, and the words behind them
abbrev pub header_of : List (List ℕ) → Option (MessageHeader × List (List ℕ))
header_of ws =
    given (number_of ws) (λ c. given (number_of c.1) (λ s. given (number_of s.1) (λ l. given (number_of l.1) (λ u. given (number_of u.1) (λ q.
    Some (record { channel = c.0; source = s.0; target_lower = l.0; target_upper = u.0; length = 0; seqno = q.0 }, q.1))))))

-- the float of a pattern in sixteen digits
abbrev pub float_of : List ℕ → Option Float
float_of w = option_map (from_bits binary64) (pattern_of w)

abbrev pub ray_spelled : List (List ℕ) → Option (List ℕ)
ray_spelled [] = None
ray_spelled (a ∷ []) = None
ray_spelled (a ∷ b ∷ []) = None
ray_spelled (a ∷ b ∷ c ∷ []) = given (unsigned_of (2 ^ 32 - 1) a) (λ s. given (signed_of b) (λ h. option_map (λ p. ray_octets (record { surface = s; height = h; path = p })) (signed_of c)))
ray_spelled (a ∷ b ∷ c ∷ d ∷ ws) = None

-- one float
abbrev pub one_spelled : (Float → List ℕ) → List (List ℕ) → Option (List ℕ)
one_spelled f [] = None
one_spelled f (a ∷ []) = option_map f (float_of a)
one_spelled f (a ∷ b ∷ ws) = None

-- two floats
abbrev pub two_spelled : (Float → Float → List ℕ) → List (List ℕ) → Option (List ℕ)
two_spelled f [] = None
two_spelled f (a ∷ []) = None
two_spelled f (a ∷ b ∷ []) = given (float_of a) (λ x. option_map (f x) (float_of b))
two_spelled f (a ∷ b ∷ c ∷ ws) = None

-- the bytes of words that are one word
abbrev pub bytes_alone : List (List ℕ) → Option (List ℕ)
bytes_alone [] = None
bytes_alone (a ∷ []) = bytes_of a
bytes_alone (a ∷ b ∷ ws) = None

-- the octets of the element that words spell in a form
abbrev pub spelled_as : Form → List (List ℕ) → Option (List ℕ)
spelled_as form.Ray ws = ray_spelled ws
spelled_as form.Thickness ws = one_spelled (λ x. tweak_octets (Thickness x)) ws
spelled_as form.Tilt ws = two_spelled (λ x y. tweak_octets (Tilt x y)) ws
spelled_as form.Index ws = one_spelled (λ x. tweak_octets (Index x)) ws
spelled_as form.Block ws = bytes_alone ws

-- and with the word in front that names the form
abbrev pub spelled_of : List (List ℕ) → Option (List ℕ)
spelled_of [] = None
spelled_of (k ∷ ws) = given (form_of k) (λ f. spelled_as f ws)

-- What is read of words that spell octets: a value that means them. Where they spell none the line is unreadable.
abbrev pub Gives : {X : Type 0} → (X → List ℕ) → Option (List ℕ) → Result X Stop → Type 0
Gives octets o (Ok x) = o ≡ Some (octets x)
Gives octets o (Err stop.Unreadable) = o ≡ None
Gives octets o (Err (stop.Refused f)) = ⊥
Gives octets o (Err (stop.OutOfMemory e)) = ⊤

-- The same of elements. Only a block can have too many octets, which 14 refuses.
abbrev pub Means : Option (List ℕ) → Result Element Stop → Type 0
Means o (Ok e) = o ≡ Some (element_octets e)
Means o (Err stop.Unreadable) = o ≡ None
Means o (Err (stop.Refused f)) = (fault_number f ≡ 14) × IsSomeAnd o (λ os. 96 < length os)
Means o (Err (stop.OutOfMemory e)) = ⊤
