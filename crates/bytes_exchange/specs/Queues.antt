-- The entries of a queue in order, what extending makes of them, and their bytes. Assumes nothing.
use Rattle.std.specs.Prelude.{◌≡◌, ℕ, ◌-◌, ◌<◌, List, [], ◌∷◌, ◌++◌, map, length, Some, None, Option, Result, MatchResult, slice_set}
use Rattle.std.specs.List.{slice_get}
use Rattle.std.specs.List as joining
use Rattle.std.specs.Option.{option_map, unwrap_or}
use Rattle.answers.specs.Faults.{number_of}
use Rattle.answers.specs.declared.Fault.{Fault}
use Rattle.fixed.specs.Held.{held}
use Rattle.pieces.specs.Pieces.{Span, span, merged, bytes}
use Rattle.bytes_exchange.specs.declared.entry.Extended.{Extended}
use Rattle.bytes_exchange.specs.declared.entry.Extended.TheVariants.{Merged, Appended}
use Rattle.bytes_exchange.specs.declared.entry.MergeQueue.{MergeQueue}
use Rattle.bytes_exchange.specs.declared.entry.QueueEntry.{QueueEntry}
use Rattle.bytes_exchange.specs.declared.entry.QueueEntry.TheVariants.{Resident, Paged}

-- an entry: resident bytes, by where they lie, or the handle of a chunk that a store keeps
pub data Entry : Type 0 where
  resident : Span → Entry
  paged : ℕ → Entry

abbrev pub entry : QueueEntry → Entry
entry (Resident p) = resident (span p)
entry (Paged h) = paged h

-- a queue's entries, front first
abbrev pub entries : MergeQueue → List Entry
entries q = map entry (held q.entries)

abbrev pub resident_len : Entry → ℕ
resident_len (resident p) = p.len
resident_len (paged h) = 0

-- what the last entry becomes, where it is resident and the piece continues it
abbrev pub continued : Option Entry → Span → Option Entry
continued None p = None
continued (Some (resident l)) p = option_map resident (merged l p)
continued (Some (paged h)) p = None

abbrev pub grown : List Entry → Span → Option Entry
grown es p = continued (slice_get es (length es - 1)) p

-- the queue with a piece more at its back, and what became of the piece
abbrev pub extended_by : List Entry → Span → Option Entry → List Entry
extended_by es p None = es ++ resident p ∷ []
extended_by es p (Some e) = slice_set es (length es - 1) e

abbrev pub extended : List Entry → Span → List Entry
extended es p = extended_by es p (grown es p)

abbrev pub became : Option Entry → Extended
became None = Appended
became (Some e) = Merged

-- a queue of 12 entries refuses a piece by 7, and stays
abbrev pub Extends : Span → List Entry → Result Extended Fault → List Entry → Type 0
Extends p before r after =
    MatchResult r
    (λ how. (length before < 12) × (how ≡ became (grown before p)) × (after ≡ extended before p))
    (λ f. (length before ≡ 12) × (number_of f ≡ 7) × (after ≡ before))

-- an entry's bytes, in a region of buffers of a size, or read through a store: the chunk of its handle
abbrev pub through : ℕ → List ℕ → (ℕ → Option (List ℕ)) → Entry → List ℕ
through size region chunk (resident p) = bytes size region p
through size region chunk (paged h) = unwrap_or (chunk h) []

-- a queue's bytes in order
abbrev pub contents : ℕ → List ℕ → (ℕ → Option (List ℕ)) → List Entry → List ℕ
contents size region chunk es = joining.flat_map (through size region chunk) es

-- the pieces of the resident entries, and the handles of the paged ones, in order
abbrev pub residents : List Entry → List Span
residents [] = []
residents (resident p ∷ es) = p ∷ residents es
residents (paged h ∷ es) = residents es

abbrev pub handles : List Entry → List ℕ
handles [] = []
handles (resident p ∷ es) = handles es
handles (paged h ∷ es) = h ∷ handles es
