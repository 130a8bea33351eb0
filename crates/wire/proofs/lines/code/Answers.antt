use Rattle.std.proofs.Common.{arith}
use Rattle.wire.proofs.Outgoing.{went}
use Rattle.wire.proofs.lines.code.Goals as goal

pub returns-in-Ok : goal.returns-in-Ok
returns-in-Ok c =
    let told = c.in-Ok.ensures in
    went c.args.counts c.args.frame.now c.args.groups.now (omega arith) (omega arith) c.frame_to_groups.new.groups c.in-Ok.after told.answer told.groups told.back
