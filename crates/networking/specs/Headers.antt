-- A message's header as octets. Assumes nothing.
use Rattle.std.specs.Prelude.{◌≡◌, ℕ, ◌+◌, ◌^◌, ◌<◌, Bool, cond, ◌&&◌, List, ◌++◌, length, take, replicate, IfSome, Some, None, Option, MatchOption, nat_le}
use Rattle.octets.specs.Octets.{value, octets, part}
use Rattle.networking.specs.declared.header.MessageHeader.{MessageHeader}

-- the forty-eight octets of a header
unfoldable pub octets_of : MessageHeader → List ℕ
octets_of h = octets 8 h.channel ++ (octets 8 h.source ++ (octets 8 h.target_lower ++ (octets 8 h.target_upper ++ (octets 8 h.length ++ octets 8 h.seqno))))

-- the six numbers at the front of a list
abbrev pub header_at : List ℕ → MessageHeader
header_at bs = record {
  channel = value (part 0 8 bs);
  source = value (part 8 8 bs);
  target_lower = value (part 16 8 bs);
  target_upper = value (part 24 8 bs);
  length = value (part 32 8 bs);
  seqno = value (part 40 8 bs);
}

-- the six numbers, where forty-eight octets are there
abbrev pub fields_of : List ℕ → Option MessageHeader
fields_of bs = cond (nat_le 48 (length bs)) (Some (header_at bs)) None

-- forty-eight octets are there, and then as many as the length says
abbrev pub is_whole : List ℕ → Bool
is_whole bs = nat_le 48 (length bs) && nat_le (48 + (header_at bs).length) (length bs)

abbrev pub read_of : List ℕ → Option MessageHeader
read_of bs = cond (is_whole bs) (Some (header_at bs)) None

-- a header that was read, written again, is what stands at the front of the list
abbrev pub Stands : Option MessageHeader → List ℕ → Type 0
Stands r bs = IfSome r (λ h. take 48 bs ≡ octets_of h)

-- forty-eight zero octets
abbrev pub closing : List ℕ
closing = replicate 48 0

-- a header is read of these octets, and it is one that closes
abbrev pub Closes : List ℕ → Type 0
Closes bs = MatchOption (read_of bs) ⊥ (λ h. h.length ≡ 0)

-- six numbers of 64 bits
pub record Fit (h : MessageHeader) : Type 0 where
  pub channel : h.channel < 2 ^ 64
  pub source : h.source < 2 ^ 64
  pub lower : h.target_lower < 2 ^ 64
  pub upper : h.target_upper < 2 ^ 64
  pub length : h.length < 2 ^ 64
  pub seqno : h.seqno < 2 ^ 64
