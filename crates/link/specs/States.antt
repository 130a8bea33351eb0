-- An end as a plain record: its numbers, what its queues hold, oldest first, and how much they can hold.
use Rattle.std.specs.Prelude.{◌≡◌, ℕ, ◌≤◌, cond, List, [], ◌∷◌, ◌++◌, length, nat_lt, slice_index, slice_index_or, slice_set}
use Rattle.frame.specs.declared.channel.Channel.{Channel}
use Rattle.frame.specs.declared.channel.Channel.TheVariants.{Vc0, Vc1, Vc2, Vc3}
use Rattle.frame.specs.Naming.{channel_number}
use Rattle.link.specs.declared.buffers.Buffers.{Buffers}
use Rattle.link.specs.declared.event.Event.{Event}
use Rattle.link.specs.declared.micropacket.Cargo.{Cargo}
use Rattle.link.specs.declared.micropacket.Micropacket.{Micropacket}
use Rattle.link.specs.declared.record.Core.{Core}
use Rattle.link.specs.Records.{new_core}
use Rattle.ring.specs.declared.Ring.{Ring}
use Rattle.ring.specs.Items.{ring_items, ring_cap}

pub record State : Type 0 where
  pub core : Core
  pub output : List Micropacket
  pub window : ℕ
  pub held : List (List Cargo)
  pub capacities : List ℕ
  pub events : List Event
  pub event_room : ℕ

-- the queues of the four channels
pub record Queues : Type 0 where
  -- what each holds, oldest first
  pub held : List (List Cargo)
  -- how much each can hold
  pub room : List ℕ

-- the queues that the channel buffers are
abbrev pub queues_of : Buffers → Queues
queues_of b =
    record {
      held = ring_items b.vc0 ∷ ring_items b.vc1 ∷ ring_items b.vc2 ∷ ring_items b.vc3 ∷ [];
      room = ring_cap b.vc0 ∷ ring_cap b.vc1 ∷ ring_cap b.vc2 ∷ ring_cap b.vc3 ∷ [];
    }

-- what a channel's queue holds, and how much it can hold
abbrev pub queue_on : Queues → Channel → List Cargo
queue_on q channel = slice_index_or q.held (channel_number channel) []

abbrev pub room_on : Queues → Channel → ℕ
room_on q channel = slice_index q.room (channel_number channel)

-- the queues with another at a channel
abbrev pub with_queue : Queues → Channel → List Cargo → Queues
with_queue q channel items = record q { held = slice_set q.held (channel_number channel) items }

-- the queues with one more behind those of a channel, where there is room
abbrev pub queued : Queues → Channel → Cargo → Queues
queued q channel cargo =
    cond (nat_lt (length (queue_on q channel)) (room_on q channel))
    (with_queue q channel (queue_on q channel ++ cargo ∷ [])) q

-- the buffer of a channel, and the buffers with another there
abbrev pub ring_at : Buffers → Channel → Ring Cargo
ring_at b Vc0 = b.vc0
ring_at b Vc1 = b.vc1
ring_at b Vc2 = b.vc2
ring_at b Vc3 = b.vc3

abbrev pub with_ring : Buffers → Channel → Ring Cargo → Buffers
with_ring b Vc0 r = record b { vc0 = r }
with_ring b Vc1 r = record b { vc1 = r }
with_ring b Vc2 r = record b { vc2 = r }
with_ring b Vc3 r = record b { vc3 = r }

-- an end of its numbers and queues
abbrev pub state_over : Core → Ring Micropacket → Buffers → Ring Event → State
state_over core output buffers events =
    record {
      core = core;
      output = ring_items output;
      window = ring_cap output;
      held = (queues_of buffers).held;
      capacities = (queues_of buffers).room;
      events = ring_items events;
      event_room = ring_cap events;
    }

-- a new end: everything empty
abbrev pub new_state : ℕ → ℕ → List ℕ → ℕ → State
new_state limit window capacities event_room =
    record {
      core = new_core limit capacities;
      output = [];
      window = window;
      held = [] ∷ [] ∷ [] ∷ [] ∷ [];
      capacities = capacities;
      events = [];
      event_room = event_room;
    }

abbrev pub with_core : State → Core → State
with_core s c = record s { core = c }

abbrev pub with_output : State → List Micropacket → State
with_output s output = record s { output = output }

abbrev pub with_held : State → List (List Cargo) → State
with_held s held = record s { held = held }

abbrev pub with_events : State → List Event → State
with_events s events = record s { events = events }

-- what a channel's buffer holds, and how much it can hold
abbrev pub held_on : State → Channel → List Cargo
held_on s channel = slice_index_or s.held (channel_number channel) []

abbrev pub capacity_of : State → Channel → ℕ
capacity_of s channel = slice_index s.capacities (channel_number channel)

-- what is so of every end: no queue holds more than it can, and each of the four channels has a buffer
pub record Fits (s : State) : Type 0 where
  pub output : length s.output ≤ s.window
  pub events : length s.events ≤ s.event_room
  pub buffers : length s.held ≡ 4
  pub capacities : length s.capacities ≡ 4
  pub held : (channel : Channel) → length (held_on s channel) ≤ capacity_of s channel
