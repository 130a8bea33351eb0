use Rattle.std.proofs.Common.{◌≡◌, false, [], map, length, vec_items}
use Rattle.sheet.specs.Asks.{fates_from}
use Rattle.sheet.proofs.asking.fates_in.Given as goal

abbrev pub invariant-loop-fate : goal.invariant-loop-fate
invariant-loop-fate l =
    fates_from false (vec_items l.fates) (map (λ x. x.now) l.rest) ≡ fates_from false [] (map (λ x. x.now) l.words)

abbrev pub decreases-loop-fate : goal.decreases-loop-fate
decreases-loop-fate l = length l.rest
