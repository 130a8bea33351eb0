use Rattle.std.proofs.Common.{◌≡◌, length}
use Rattle.wire.proofs.emptying.drain.Given as goal

abbrev pub invariant-loop : goal.invariant-loop
invariant-loop g l = length l.frame ≡ 40

abbrev pub decreases-loop : goal.decreases-loop
decreases-loop g l = length (g.W.Wire.frames l.wire)
