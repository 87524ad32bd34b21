use Rattle.std.proofs.Common.{◌≤◌, length, sym, arith, rules}
use Rattle.octets.proofs.Parts.{there}
use Rattle.networking.specs.Headers.{Fit}
use Rattle.networking.specs.declared.header.MessageHeader.{MessageHeader}
use Rattle.networking.proofs.Framing.{Fields, absent, the_fields, again}
use Rattle.networking.proofs.header.MessageHeader.read.Goals as goal

pub returns-in_err-read_at : goal.returns-in_err-read_at
returns-in_err-read_at c =
    let a = absent c.args.bytes.now 0 c.from_residual.result c.type_inv.bytes (omega arith) c.in_err-read_at.ensures.answer c.from_residual.ensures in
    record { answer = a.0; again = a.1 }

pub returns-in_err-read_at-2 : goal.returns-in_err-read_at-2
returns-in_err-read_at-2 c =
    let a = absent c.args.bytes.now 8 c.from_residual-in_err-read_at-2.result c.type_inv.bytes (omega arith) c.in_err-read_at-2.ensures.answer c.from_residual-in_err-read_at-2.ensures in
    record { answer = a.0; again = a.1 }

pub returns-in_err-read_at-3 : goal.returns-in_err-read_at-3
returns-in_err-read_at-3 c =
    let a = absent c.args.bytes.now 16 c.from_residual-in_err-read_at-3.result c.type_inv.bytes (omega arith) c.in_err-read_at-3.ensures.answer c.from_residual-in_err-read_at-3.ensures in
    record { answer = a.0; again = a.1 }

pub returns-in_err-read_at-4 : goal.returns-in_err-read_at-4
returns-in_err-read_at-4 c =
    let a = absent c.args.bytes.now 24 c.from_residual-in_err-read_at-4.result c.type_inv.bytes (omega arith) c.in_err-read_at-4.ensures.answer c.from_residual-in_err-read_at-4.ensures in
    record { answer = a.0; again = a.1 }

pub returns-in_err-read_at-5 : goal.returns-in_err-read_at-5
returns-in_err-read_at-5 c =
    let a = absent c.args.bytes.now 32 c.from_residual-in_err-read_at-5.result c.type_inv.bytes (omega arith) c.in_err-read_at-5.ensures.answer c.from_residual-in_err-read_at-5.ensures in
    record { answer = a.0; again = a.1 }

pub returns-in_err-read_at-6 : goal.returns-in_err-read_at-6
returns-in_err-read_at-6 c =
    let a = absent c.args.bytes.now 40 c.from_residual-in_err-read_at-6.result c.type_inv.bytes (omega arith) c.in_err-read_at-6.ensures.answer c.from_residual-in_err-read_at-6.ensures in
    record { answer = a.0; again = a.1 }

pub returns : goal.returns
returns c =
    let bs = c.args.bytes.now in
    let h : MessageHeader = record {
      channel = c.in_ok-read_at.field-0;
      source = c.in_ok-read_at-2.field-0;
      target_lower = c.in_ok-read_at-3.field-0;
      target_upper = c.in_ok-read_at-4.field-0;
      length = c.in_ok-read_at-5.field-0;
      seqno = c.in_ok-read_at-6.field-0;
    } in
    let p : Fields h bs = record {
      channel = c.in_ok-read_at.ensures.answer;
      source = c.in_ok-read_at-2.ensures.answer;
      lower = c.in_ok-read_at-3.ensures.answer;
      upper = c.in_ok-read_at-4.ensures.answer;
      size = c.in_ok-read_at-5.ensures.answer;
      seqno = c.in_ok-read_at-6.ensures.answer;
    } in
    let f : Fit h = record { channel = search rules; source = search rules; lower = search rules; upper = search rules; length = search rules; seqno = search rules } in
    let long : 48 ≤ length bs = there bs 40 8 h.seqno (omega arith) p.seqno in
    record { answer = sym (the_fields h bs long p f); again = again h bs p }
