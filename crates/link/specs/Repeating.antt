-- Repeats, and giving up.
use Rattle.std.specs.Prelude.{◌+◌, min, cond, [], ◌∷◌, Ok, Err, Result, ◌==◌, nat_lt}
use Rattle.frame.specs.declared.channel.Channel.TheVariants.{Vc0, Vc1, Vc2, Vc3}
use Rattle.frame.specs.declared.refusal.Refusal.{Refusal}
use Rattle.frame.specs.declared.refusal.Refusal.TheVariants.{NothingSent}
use Rattle.link.specs.declared.event.Event.TheVariants.{RseqMissingError, RetryCount, RetryFailureError}
use Rattle.link.specs.declared.phase.Phase.{Phase}
use Rattle.link.specs.declared.phase.Phase.TheVariants.{Shutdown}
use Rattle.link.specs.declared.record.ChannelRecord.{ChannelRecord}
use Rattle.link.specs.declared.record.Core.{Core}
use Rattle.link.specs.Log.{logged}
use Rattle.link.specs.Outcomes.{if_normal}
use Rattle.link.specs.Records.{record_of}
use Rattle.link.specs.States.{State, with_core}

-- a record without its open Message
abbrev pub closed : ChannelRecord → ChannelRecord
closed r = record r { left = 0 }

-- repeats, credit, waiting credit and slips stay as they stood
abbrev pub shut_core : Core → Core
shut_core c =
    record c {
      phase = Shutdown;
      place = 0;
      sent = 0;
      channels =
          closed (record_of c Vc0) ∷ closed (record_of c Vc1) ∷ closed (record_of c Vc2) ∷ closed (record_of c Vc3) ∷ [];
    }

-- Shutdown empties the output buffer and the channel buffers and drops open Messages
unfoldable pub shut_down : State → State
shut_down s = record s { core = shut_core s.core; output = []; held = [] ∷ [] ∷ [] ∷ [] ∷ [] }

-- the sending place goes back to the oldest micropacket held, which is one more repeat
abbrev pub rewound : Core → Core
rewound c = record c { repeats = min (c.repeats + 1) 255; place = 0 }

abbrev pub begun_again : State → State
begun_again s = with_core s (rewound s.core)

-- nothing if nothing sent is unacknowledged; at the limit the end gives up; else everything held is sent again
unfoldable pub repeated : State → State
repeated s =
    cond (s.core.sent == 0) s
    (cond (nat_lt s.core.repeats s.core.limit)
    (begun_again (logged s RetryCount))
    (shut_down (logged s RetryFailureError)))

-- no acknowledgement came in time
abbrev pub timeout_found : State → Result State Refusal
timeout_found s =
    if_normal s.core.phase
    (cond (s.core.sent == 0) (Err NothingSent) (Ok (repeated (logged s RseqMissingError))))

-- the phase that a call leaves an end in
abbrev pub phase_found : Result State Refusal → Result Phase Refusal
phase_found (Ok s) = Ok s.core.phase
phase_found (Err e) = Err e
