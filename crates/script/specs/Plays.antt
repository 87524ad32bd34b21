-- What is answered to a line of a script, by its words. Assumes nothing.
use Rattle.std.specs.Prelude.{◌≡◌, ℕ, ◌<◌, ◌≤◌, cond, List, [], ◌∷◌, length, Some, None, Ok, Err, Option, Result, vec_items, MatchBool, MatchOption, ◌==◌, ◌≢◌, slice_index, IfSome}
use Rattle.answers.specs.Faults.{number_of}
use Rattle.networking.specs.Headers.{read_of}
use Rattle.networking.specs.declared.header.MessageHeader.{MessageHeader}
use Rattle.framing.specs.Messages.{message_of}
use Rattle.script.specs.Names.{verb_of, kind_of}
use Rattle.script.specs.Spelled.{bytes_alone, element_octets, header_of, spelled_of}
use Rattle.script.specs.declared.answer.Answer.{Answer}
use Rattle.script.specs.declared.answer.Answer.TheVariants as answer
use Rattle.script.specs.declared.element.Element.{Element}
use Rattle.script.specs.declared.element.Element.TheVariants as element
use Rattle.script.specs.declared.element.Kind.{Kind}
use Rattle.script.specs.declared.element.Kind.TheVariants as kind
use Rattle.script.specs.declared.stop.Stop.{Stop}
use Rattle.script.specs.declared.stop.Stop.TheVariants as stop
use Rattle.script.specs.declared.verb.Verb.{Verb}
use Rattle.script.specs.declared.verb.Verb.TheVariants as verb

-- a header is read of bytes
abbrev pub PlaysRead : List (List ℕ) → Answer → Type 0
PlaysRead ws a = MatchOption (bytes_alone ws) (a ≡ answer.Unreadable (Some verb.Read)) (λ bs. a ≡ answer.Header (read_of bs))

abbrev pub kind_of_element : Element → Kind
kind_of_element (element.Ray r) = kind.Ray
kind_of_element (element.Tweak t) = kind.Tweak
kind_of_element (element.Block b) = kind.Block

-- the element of a kind that bytes mean, or 14 where there is none
abbrev pub ReadsElement : Kind → List ℕ → Answer → Type 0
ReadsElement k bs answer.Nothing = ⊥
ReadsElement k bs (answer.Unreadable v) = ⊥
ReadsElement k bs (answer.Message v) = ⊥
ReadsElement k bs (answer.Header r) = ⊥
ReadsElement k bs (answer.Element e) = (kind_of_element e ≡ k) × (bs ≡ element_octets e)
ReadsElement k bs (answer.Refused v f) = (v ≡ verb.Element) × (number_of f ≡ 14) × ((e : Element) → kind_of_element e ≡ k → bs ≢ element_octets e)

abbrev pub PlaysElement : List (List ℕ) → Answer → Type 0
PlaysElement [] a = a ≡ answer.Unreadable (Some verb.Element)
PlaysElement (w ∷ ws) a = MatchOption (kind_of w) (a ≡ answer.Unreadable (Some verb.Element)) (λ k. MatchOption (bytes_alone ws) (a ≡ answer.Unreadable (Some verb.Element)) (λ bs. ReadsElement k bs a))

-- the octets of a message; an element of no octets is refused by 6, and a block of too many by 14
abbrev pub WritesMessage : MessageHeader → List ℕ → Answer → Type 0
WritesMessage h os answer.Nothing = ⊥
WritesMessage h os (answer.Unreadable v) = ⊥
WritesMessage h os (answer.Message v) = (0 < length os) × (length os ≤ 96) × (vec_items v ≡ message_of h os)
WritesMessage h os (answer.Header r) = ⊥
WritesMessage h os (answer.Element e) = ⊥
WritesMessage h os (answer.Refused v f) = (v ≡ verb.Message) × (0 < length os → 96 < length os) × (number_of f ≡ cond (length os == 0) 6 14)

abbrev pub PlaysMessage : List (List ℕ) → Answer → Type 0
PlaysMessage ws a = MatchOption (header_of ws) (a ≡ answer.Unreadable (Some verb.Message)) (λ p. MatchOption (spelled_of p.1) (a ≡ answer.Unreadable (Some verb.Message)) (λ os. WritesMessage p.0 os a))

-- what a verb answers to the words behind it
abbrev pub PlaysVerb : Verb → List (List ℕ) → Answer → Type 0
PlaysVerb verb.Message ws a = PlaysMessage ws a
PlaysVerb verb.Read ws a = PlaysRead ws a
PlaysVerb verb.Element ws a = PlaysElement ws a

-- the answer to a line of a verb, also where it was stopped; there is none where memory failed
abbrev pub answer_to : Verb → Result Answer Stop → Option Answer
answer_to v (Ok a) = Some a
answer_to v (Err stop.Unreadable) = Some (answer.Unreadable (Some v))
answer_to v (Err (stop.Refused f)) = Some (answer.Refused v f)
answer_to v (Err (stop.OutOfMemory e)) = None

-- the answer to a line of a verb, played or stopped, is so, where memory did not fail
abbrev pub Answered : Verb → Result Answer Stop → (Answer → Type 0) → Type 0
Answered v r P = IfSome (answer_to v r) P

-- a line of no word, or whose first begins with #, is passed over
abbrev pub Plays : List (List ℕ) → Answer → Type 0
Plays [] a = a ≡ answer.Nothing
Plays (w ∷ ws) a = MatchBool (slice_index w 0 == 35) (a ≡ answer.Nothing) (MatchOption (verb_of w) (a ≡ answer.Unreadable None) (λ v. PlaysVerb v ws a))
