-- What is so of every end's queues.
use Rattle.std.proofs.Common.{refl}
use Rattle.frame.specs.declared.channel.Channel.TheVariants.{Vc0, Vc1, Vc2, Vc3}
use Rattle.link.specs.declared.buffers.Buffers.{Buffers}
use Rattle.link.specs.declared.event.Event.{Event}
use Rattle.link.specs.declared.micropacket.Micropacket.{Micropacket}
use Rattle.link.specs.declared.record.Core.{Core}
use Rattle.link.specs.States.{Fits, state_over}
use Rattle.ring.specs.declared.Ring.{Ring}
use Rattle.ring.proofs.Turns.{ring_bound}

pub all_fit : (core : Core) (output : Ring Micropacket) (buffers : Buffers) (events : Ring Event) → Fits (state_over core output buffers events)
all_fit core output buffers events =
    record {
      output = ring_bound output;
      events = ring_bound events;
      buffers = refl;
      capacities = refl;
      held = elim [ Vc0 ↦ ring_bound buffers.vc0 | Vc1 ↦ ring_bound buffers.vc1 | Vc2 ↦ ring_bound buffers.vc2 | Vc3 ↦ ring_bound buffers.vc3 ];
    }
