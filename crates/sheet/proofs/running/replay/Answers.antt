use Rattle.std.proofs.Common.{vec_items}
use Rattle.sheet.specs.Print.{closing}
use Rattle.sheet.proofs.Printed.{whole_print}
use Rattle.sheet.proofs.running.replay.Goals as goal

pub returns : goal.returns
unfolding closing
returns c =
    whole_print c.args.sheet.now _ _ _ _ (vec_items c.in_ok-pieces.pieces) c.deref.result.now c.deref-2.result.now (vec_items c.new.result)
    c.in_ok-from.from _ c.in_ok-pieces.ensures.are c.deref.ensures.value c.deref-2.ensures.value c.new-out.ensures.bytes
    c.new.ensures.items c.in_ok-from.ensures c.in_ok-run_made.ensures c.in_ok-push_str.ensures.bytes
