use Rattle.std.proofs.Common.{◌≡◌, length, rules}
use Rattle.frame.specs.Naming.{channel_number}
use Rattle.message.proofs.Steps.{decided}
use Rattle.message.proofs.reader.Reader.step.Goals as goal

pub returns-in_err-outcome : goal.returns-in_err-outcome
returns-in_err-outcome c =
    let t = c.args.taken.now in
    let own : channel_number t.channel ≡ channel_number c.args.self.now.channel = search rules in
    let d = decided c.args.self.now t.channel t.part t.tail t.error t.content.now (length c.args.buffer.now) c.if-taken.false own in
    record { value = search rules; state = search rules; bytes = search rules }

pub returns : goal.returns
returns c =
    let t = c.args.taken.now in
    let own : channel_number t.channel ≡ channel_number c.args.self.now.channel = search rules in
    let d = decided c.args.self.now t.channel t.part t.tail t.error t.content.now (length c.args.buffer.now) c.if-taken.false own in
    record { value = search rules; state = search rules; bytes = search rules }
