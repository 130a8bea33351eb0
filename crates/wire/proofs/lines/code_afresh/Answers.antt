use Rattle.std.proofs.Common.{arith, sym, ◌∙◌}
use Rattle.wire.proofs.Outgoing.{went}
use Rattle.wire.proofs.lines.code_afresh.Goals as goal

pub returns : goal.returns
returns c =
    let told = c.frame_to_groups.ensures in
    let is = c.unwrap.ensures in
    rw (← c.new.ensures.is) (went c.new.result c.args.frame.now c.args.groups.now (omega arith) (omega arith) c.frame_to_groups.new.groups c.unwrap.result (sym is ∙ told.answer) told.groups (rw is at told.back))
