-- what lies at the place is what the list has at i
use Rattle.std.proofs.Common.{◌≡◌, Some, sym, ap, ◌∙◌, arith}
use Rattle.std.proofs.lemmas.List.{get_or_read}
use Rattle.std.proofs.lemmas.Option.{slice_get-get_or, slice_get_past}
use Rattle.ring.specs.Held.{place_of, start_of}
use Rattle.ring.specs.Items.{ring_items, ring_cap}
use Rattle.ring.proofs.Turns.{ring_at}
use Rattle.ring.proofs.Ring.get_ref.Goals as goal

pub returns-then-i-len : goal.returns-then-i-len
returns-then-i-len g c =
    let r = c.args.self.now in
    let x = c.index-slots-p.result in
    let i = c.args.i in
    let p = c.place-p.result in
    let at : p ≡ place_of (ring_cap r) (start_of r.first (ring_cap r)) i = cc in
    ap Some (get_or_read r.slots.now p x (omega arith) c.index-slots-p.is x ∙ ring_at r i p x (omega arith) at)
    ∙ sym (slice_get-get_or (ring_items r) i x (omega arith))

pub returns-else-i-len : goal.returns-else-i-len
returns-else-i-len g c = sym (slice_get_past (ring_items c.args.self.now) c.args.i (omega arith))
