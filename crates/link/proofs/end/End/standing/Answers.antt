use Rattle.link.proofs.Rings.{all_fit}
use Rattle.link.proofs.end.End.standing.Goals as goal

pub returns-clause-fits : goal.returns-clause-fits
returns-clause-fits c = rw (← c.self.view_is) (all_fit c.self.inside.core c.self.inside.output c.self.inside.buffers c.self.inside.events)
