use Rattle.framing.proofs.Joining.{joined}
use Rattle.framing.proofs.write_message.Goals as goal

pub returns-clause-back : goal.returns-clause-back
returns-clause-back g c =
    let front = c.in_ok-write_to.ensures in
    joined c.args.header.now _ c.length_in_bytes-length.result c.write_to.new.out _ c.into_bytes.result c.into_bytes.new.out c.length_in_bytes-length.ensures.answer front.after.1 front.back c.into_bytes.ensures.after
