-- Counting and keeping events.
use Rattle.std.specs.Prelude.{ℕ, ◌+◌, min, cond, List, [], ◌∷◌, ◌++◌, length, drop, Option, Result, ok_or, nat_lt, slice_index, slice_set}
use Rattle.frame.specs.declared.refusal.Refusal.{Refusal}
use Rattle.frame.specs.declared.refusal.Refusal.TheVariants.{NothingHeld}
use Rattle.link.specs.declared.event.Event.{Event}
use Rattle.link.specs.declared.record.Core.{Core}
use Rattle.link.specs.Naming.{event_place}
use Rattle.link.specs.States.{State, with_core, with_events}

abbrev pub counter_of : Core → Event → ℕ
counter_of c event = slice_index c.counters (event_place event)

-- one more of an event; a counter stops at the largest number of 32 bits
abbrev pub counted : Core → Event → Core
counted c event =
    record c {
      counters = slice_set c.counters (event_place event) (min (counter_of c event + 1) 4294967295);
    }

-- a queue of events with room for so many keeps no more
abbrev pub kept : List Event → ℕ → Event → List Event
kept events room event = cond (nat_lt (length events) room) (events ++ event ∷ []) events

-- an event is logged: counted, and kept where there is room
abbrev pub logged : State → Event → State
logged s event = with_events (with_core s (counted s.core event)) (kept s.events s.event_room event)

-- reading the oldest event, which frees its place
abbrev pub or_nothing : {X : Type 0} → Option X → Result X Refusal
or_nothing found = ok_or found NothingHeld

abbrev pub after_event : State → State
after_event s = with_events s (drop 1 s.events)
