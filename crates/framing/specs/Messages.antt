-- A message as octets. Assumes nothing.
use Rattle.std.specs.Prelude.{◌≡◌, ℕ, ◌+◌, ◌<◌, cond, List, ◌++◌, length, drop, Some, Ok, Err, Result, ◌==◌, ◌≢◌}
use Rattle.answers.specs.Faults.{number_of}
use Rattle.answers.specs.declared.Fault.{Fault}
use Rattle.networking.specs.Headers.{octets_of, read_of}
use Rattle.networking.specs.declared.header.MessageHeader.{MessageHeader}

-- the header of a payload of this length
abbrev pub sized : MessageHeader → ℕ → MessageHeader
sized h n = record { channel = h.channel; source = h.source; target_lower = h.target_lower; target_upper = h.target_upper; length = n; seqno = h.seqno }

-- a header, and its payload behind it
abbrev pub message_of : MessageHeader → List ℕ → List ℕ
message_of h payload = octets_of (sized h (length payload)) ++ payload

-- A part of the message's length, which held `before`, holds the message after. A payload of no octets is refused by 6,
-- for its header would close; a part of another length by 20; and what is refused leaves the part.
abbrev pub Writes : {V : Type 0} → MessageHeader → List ℕ → List ℕ → Result V Fault → List ℕ → Type 0
Writes h payload before (Ok v) after = (0 < length payload) × (length before ≡ 48 + length payload) × (after ≡ message_of h payload)
Writes h payload before (Err e) after = (0 < length payload → length before ≢ 48 + length payload) × (number_of e ≡ cond (length payload == 0) 6 20) × (after ≡ before)

-- what was written is read back: the header, and the payload behind it
abbrev pub Back : {V : Type 0} → MessageHeader → List ℕ → Result V Fault → List ℕ → Type 0
Back h payload (Ok v) after = (read_of after ≡ Some (sized h (length payload))) × (drop 48 after ≡ payload)
Back h payload (Err e) after = Unit {0}
