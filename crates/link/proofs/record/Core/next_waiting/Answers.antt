use Rattle.std.proofs.Common.{[], ◌∷◌, ◌∙◌, rules, tests}
use Rattle.std.proofs.lemmas.Iterator.{YieldsList-from_slice}
use Rattle.std.proofs.lemmas.Iterator.Search.{find_from_yields_List}
use Rattle.link.specs.Credit.{channel_after, waits}
use Rattle.link.proofs.record.Core.next_waiting.Goals as goal

pub returns : goal.returns
returns c =
    let last = c.args.self.now.named in
    let first = channel_after last in
    let second = channel_after first in
    c.copied.ensures
    ∙ find_from_yields_List (waits c.args.self.now) _ _ c.find.result c.find.ensures.ran
    (YieldsList-from_slice (first ∷ second ∷ channel_after second ∷ last ∷ []) cc) (λ x b q k. search (rules, tests))
