use Rattle.std.proofs.Common.{vec_items, ◌∙◌}
use Rattle.sheet.proofs.Fated.{read_on, end_read}
use Rattle.sheet.proofs.asking.fates_in.Goals as goal

pub loop-fate-preserved : goal.loop-fate-preserved
loop-fate-preserved c =
    read_on (vec_items c.loop-fate.fates) _ c.loop-fate.rest.now c.in-Some.fate c.in-Some.taken c.in-Some.ensures c.in_ok-push.ensures.items
    ∙ c.loop-fate.invariant

pub returns : goal.returns
returns c =
    rw (c.then_some.ensures, c.is_empty.ensures) (end_read vec_items c.loop-fate.fates c.loop-fate.rest.now c.in_default.ensures) ∙ c.loop-fate.invariant
