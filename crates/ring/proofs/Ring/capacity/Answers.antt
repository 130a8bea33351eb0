use Rattle.std.proofs.Common.{rules}
use Rattle.ring.specs.Items.{queue_of}
use Rattle.ring.proofs.Ring.capacity.Goals as goal

pub returns : goal.returns
unfolding queue_of
returns g c = search rules
