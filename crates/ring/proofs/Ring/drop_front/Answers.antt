-- the oldest moves on round the end, by as many as are dropped
use Rattle.std.proofs.Common.{◌≡◌, min, drop, length, ap, arith}
use Rattle.ring.specs.Held.{place_of}
use Rattle.ring.specs.Items.{queue_of, ring_cap}
use Rattle.ring.proofs.Turns.{ring_drop}
use Rattle.ring.proofs.Ring.drop_front.Goals as goal

pub returns : goal.returns
unfolding queue_of
returns g c =
    let r = c.args.self.now in
    let first = c.start.result in
    let len = c.len-len.result in
    let k = c.min-k.result in
    let p = c.place-self.result in
    let fewer : k ≡ min c.args.n len = omega arith in
    let at : p ≡ place_of (ring_cap r) first k = cc in
    ap (λ l. record { items = l; room = min r.size (length r.slots.now); past = drop (min r.size (length r.slots.now)) r.slots.now; loan = r.slots.ghost_name })
    (ring_drop r first len c.start.ensures.value c.len-len.ensures.value c.args.n k p fewer at)
