use Rattle.std.proofs.Common.{◌≡◌, arith, rules}
use Rattle.octets.specs.Octets.{value, part}
use Rattle.octets.proofs.Parts.{not_there, octets_back, octets_fit}
use Rattle.octets.proofs.Spelling.{value_4}
use Rattle.octets.proofs.integer.U32Number.read_at.Goals as goal

pub returns-in_err-octets : goal.returns-in_err-octets
returns-in_err-octets c = record { answer = rw c.from_residual.ensures (λ x e. not_there c.args.bytes.now c.args.at 4 x (omega arith) c.in_err-octets.ensures e) }

pub returns : goal.returns
returns c =
    let read : c.from_be_bytes.result ≡ value (part c.args.at 4 c.args.bytes.now) = search (rules, value_4) in
    record { answer = octets_back c.args.bytes.now c.args.at 4 (octets_fit c.args.bytes.now c.type_inv.bytes) c.in_ok-octets.ensures.0 read }
