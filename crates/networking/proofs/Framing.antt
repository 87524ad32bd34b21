-- What holds of the octets of a header. Assumes nothing.
use Rattle.std.proofs.Common.{◌≡◌, ℕ, ◌+◌, ◌<◌, ◌≤◌, true, cond, List, [], ◌++◌, length, get_or, take, Some, None, Option, sym, refl, ap, ◌∙◌, append_assoc, arith, length-append, w8, Fits}
use Rattle.std.proofs.lemmas.Bool.{le-leb, lt-leb, and_from}
use Rattle.octets.specs.Octets.{octets, part}
use Rattle.octets.proofs.Parts.{cut, octets_fit, short}
use Rattle.octets.proofs.Spelling.{length-octets, value_back}
use Rattle.networking.specs.Headers.{octets_of, header_at, fields_of, is_whole, read_of, Stands, Fit}
use Rattle.networking.specs.declared.header.MessageHeader.{MessageHeader}

pub length-octets_of : (h : MessageHeader) → length (octets_of h) ≡ 48
unfolding octets octets_of
length-octets_of h = refl

-- how many octets there are of a number and of a header
pub ruleset lengths = (length-octets, length-octets_of)

-- what stands at the places of a header's octets
pub record Fields (h : MessageHeader) (bs : List ℕ) : Type 0 where
  pub channel : part 0 8 bs ≡ octets 8 h.channel
  pub source : part 8 8 bs ≡ octets 8 h.source
  pub lower : part 16 8 bs ≡ octets 8 h.target_lower
  pub upper : part 24 8 bs ≡ octets 8 h.target_upper
  pub size : part 32 8 bs ≡ octets 8 h.length
  pub seqno : part 40 8 bs ≡ octets 8 h.seqno

pub fields_of_lem : (h : MessageHeader) (rest : List ℕ) → Fields h (octets_of h ++ rest)
unfolding octets octets_of
fields_of_lem h rest = record { channel = refl; source = refl; lower = refl; upper = refl; size = refl; seqno = refl }

-- the six numbers are read back
pub header_back : (h : MessageHeader) (bs : List ℕ) → Fields h bs → Fit h → header_at bs ≡ h
header_back h bs p f =
    rw (p.channel, p.source, p.lower, p.upper, p.size, p.seqno, value_back 8 h.channel f.channel, value_back 8 h.source f.source, value_back 8 h.target_lower f.lower, value_back 8 h.target_upper f.upper, value_back 8 h.length f.length, value_back 8 h.seqno f.seqno)

-- and written again they are what stood there
pub again : (h : MessageHeader) (bs : List ℕ) → Fields h bs → take 48 bs ≡ octets_of h
unfolding octets_of
again h bs p =
    cut bs 0 8 40 p.channel (cut bs 8 8 32 p.source (cut bs 16 8 24 p.lower (cut bs 24 8 16 p.upper (cut bs 32 8 8 p.size p.seqno))))

-- a header that is written in front of its payload is read back
pub back : (h : MessageHeader) (rest : List ℕ) → Fit h → h.length ≤ length rest → read_of (octets_of h ++ rest) ≡ Some h
back h rest f fits =
    let bs = octets_of h ++ rest in
    let long : length bs ≡ 48 + length rest = length-append (octets_of h) rest ∙ ap (λ n. n + length rest) (length-octets_of h) in
    let same : header_at bs ≡ h = header_back h bs (fields_of_lem h rest) f in
    let size : (header_at bs).length ≡ h.length = ap (λ g. g.length) same in
    let whole : is_whole bs ≡ true = and_from _ _ (le-leb 48 (length bs) (omega arith)) (le-leb (48 + (header_at bs).length) (length bs) (omega arith)) in
    ap (λ b. cond b (Some (header_at bs)) None) whole ∙ ap Some same

-- fewer than forty-eight octets are no header
pub no_fields : (bs : List ℕ) → length bs < 48 → fields_of bs ≡ None
no_fields bs h = ap (λ b. cond b (Some (header_at bs)) None) (lt-leb 48 (length bs) h)

pub the_fields : (h : MessageHeader) (bs : List ℕ) → 48 ≤ length bs → Fields h bs → Fit h → fields_of bs ≡ Some h
the_fields h bs l p f = ap (λ b. cond b (Some (header_at bs)) None) (le-leb 48 (length bs) l) ∙ ap Some (header_back h bs p f)

-- where one of the numbers is absent, so is the header
pub absent : (bs : List ℕ) (i : ℕ) (r : Option MessageHeader) → ((k : ℕ) → Fits w8 (get_or bs k 0)) → i ≤ 40 → ((n : ℕ) → part i 8 bs ≡ octets 8 n → ⊥) → r ≡ None → (r ≡ fields_of bs) × Stands r bs
absent bs i r fit le none e =
    let few : length bs < 48 = omega (arith, short bs i 8 (octets_fit bs fit) none) in
    (e ∙ sym (no_fields bs few), rw e tt)

-- six numbers, written one behind the other
pub written : (h : MessageHeader) → [] ++ octets 8 h.channel ++ octets 8 h.source ++ octets 8 h.target_lower ++ octets 8 h.target_upper ++ octets 8 h.length ++ octets 8 h.seqno ≡ octets_of h
unfolding octets_of
written h = simp append_assoc
