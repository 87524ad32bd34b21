-- A header and a payload that are written one behind the other. Assumes nothing.
use Rattle.std.proofs.Common.{◌≡◌, ℕ, ◌+◌, ◌≤◌, List, ◌++◌, length, drop, Some, Ok, Err, Result, ap, ◌∙◌, arith, length-append, drop_at}
use Rattle.answers.specs.Faults.{Fills}
use Rattle.answers.specs.declared.Fault.{Fault}
use Rattle.networking.specs.Headers.{octets_of, read_of}
use Rattle.networking.specs.declared.header.MessageHeader.{MessageHeader}
use Rattle.networking.proofs.Framing.{length-octets_of}
use Rattle.framing.specs.Messages.{sized, message_of, Back}

pub ruleset lengths = (length-octets_of)

-- a header whose length is the payload's, and the payload behind it, are read back
pub joined : {V : Type 0} (h : MessageHeader) (os : List ℕ) (n : ℕ) (front before : List ℕ) (r : Result V Fault) (after : List ℕ)
    → n ≡ length os → front ≡ octets_of (sized h n) → ((rest : List ℕ) → n ≤ length rest → read_of (front ++ rest) ≡ Some (sized h n))
    → Fills os before r after → Back h os r (front ++ after)
joined h os n front before (Ok v) after same e read fills =
    let whole : read_of (front ++ os) ≡ Some (sized h (length os)) = read os (omega arith) ∙ ap (λ m. Some (sized h m)) same in
    let behind : drop 48 (octets_of (sized h n) ++ os) ≡ os = drop_at (octets_of (sized h n)) os 48 (length-octets_of _) in
    (ap (λ l. read_of (front ++ l)) fills.1 ∙ whole, rw (e, fills.1) behind)
joined h os n front before (Err x) after same e read fills = tt

pub length-message_of : (h : MessageHeader) (os : List ℕ) → length (message_of h os) ≡ 48 + length os
length-message_of h os = length-append (octets_of (sized h (length os))) os ∙ ap (λ n. n + length os) (length-octets_of (sized h (length os)))
