-- the wire below gets what the fate made of the frame
use Rattle.std.proofs.Common.{◌≡◌, length, Some, arith, rules}
use Rattle.wire.specs.Fates.{fates_left, next_fate, struck}
use Rattle.wire.proofs.Fated.{put_struck}
use Rattle.wire.proofs.striking.FaultWire.put.Goals as goal

pub returns-clause-list : goal.returns-clause-list
returns-clause-list g c =
    let frame = c.args.frame.now in
    let fate = next_fate (fates_left c.args.self.now) in
    let whole : length frame ≡ 40 = search rules in
    let wide : length c.in-Some.bytes ≡ 40 = search rules in
    let e : Some c.in-Some.bytes ≡ struck fate frame = search rules in
    put_struck fate _ frame c.in-Some.bytes _ whole (λ i. omega (arith, c.type_inv.frame i)) wide e (rw c.spend.ensures.below at c.put.ensures.list)
