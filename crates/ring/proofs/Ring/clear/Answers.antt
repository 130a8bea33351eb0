-- a list without as many as it has is empty
use Rattle.std.proofs.Common.{rules}
use Rattle.std.proofs.lemmas.List.{drop_all}
use Rattle.ring.proofs.Ring.clear.Goals as goal

pub returns : goal.returns
returns g c = search (rules, drop_all)
