-- the element goes to the place behind the youngest, which is below the capacity
use Rattle.std.proofs.Common.{◌≡◌, ◌<◌, drop, set, sym, ap, ◌∙◌, arith}
use Rattle.std.proofs.lemmas.Bool.{lt-ltb}
use Rattle.ring.specs.Held.{place_of}
use Rattle.ring.specs.Items.{queue_of, ring_cap}
use Rattle.ring.proofs.Turns.{ring_push, past_push, cap_set}
use Rattle.ring.proofs.Ring.push_back.Goals as goal

pub returns-then-len-size : goal.returns-then-len-size
unfolding queue_of
returns-then-len-size g c =
    let r = c.args.self.now in
    let x = c.args.x in
    let first = c.start-first.result in
    let len = c.len-len.result in
    let p = c.place-p.result in
    let room : len < ring_cap r = omega arith in
    let at : p ≡ place_of (ring_cap r) first len = cc in
    let starts = c.start-first.ensures.value in
    let counts = c.len-len.ensures.value in
    let more = ring_push r first len starts counts p x at room in
    let same = sym (cap_set r p x) in
    let past = ap (λ n. drop n (set r.slots.now p x)) same ∙ past_push r first len starts counts p x at room in
    record {
      test = sym (lt-ltb _ _ (omega arith));
      queue = λ i. record { items = more i; room = same i; past = past i; loan = r.slots.ghost_name };
    }
