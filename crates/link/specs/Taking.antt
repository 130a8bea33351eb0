-- Taking what was received, and giving the places back.
use Rattle.std.specs.Prelude.{ℕ, cond, List, drop, Some, None, Ok, Err, Option, Result, ◌==◌, nat_lt, slice_set}
use Rattle.std.specs.List.{slice_get}
use Rattle.frame.specs.declared.channel.Channel.{Channel}
use Rattle.frame.specs.declared.refusal.Refusal.{Refusal}
use Rattle.frame.specs.declared.refusal.Refusal.TheVariants.{BadChannel, BadSize, NoSlip}
use Rattle.frame.specs.Naming.{channel_number, channel_at}
use Rattle.link.specs.declared.micropacket.Cargo.{Cargo}
use Rattle.link.specs.declared.slip.Slip.{Slip}
use Rattle.link.specs.declared.slip.Taken.{Taken}
use Rattle.link.specs.Log.{or_nothing}
use Rattle.link.specs.Outcomes.{if_normal}
use Rattle.link.specs.Records.{record_of, with_record, slip_out, slip_back}
use Rattle.link.specs.States.{State, with_core, with_held, held_on, capacity_of}

-- what a take finds, or the first refusal that applies
abbrev pub take_found : State → ℕ → ℕ → Result Cargo Refusal
take_found s channel size =
    cond (nat_lt channel 4)
    (if_normal s.core.phase
    (cond (size == 32)
    (or_nothing (slice_get (held_on s (channel_at channel)) 0))
    (Err BadSize)))
    (Err BadChannel)

-- the answer: TYPE, TAIL, ERROR and a slip of the channel
abbrev pub taken_of : ℕ → Result Cargo Refusal → Result Taken Refusal
taken_of channel (Ok h) =
    Ok (record { kind = h.kind; tail = h.tail; error = h.error; slip = record { channel = channel_at channel } })
taken_of channel (Err e) = Err e

-- the oldest leaves the channel's buffer, and one more slip is out
abbrev pub taken_from : State → Channel → State
taken_from s channel =
    with_core (with_held s (slice_set s.held (channel_number channel) (drop 1 (held_on s channel))))
    (with_record s.core channel (slip_out (record_of s.core channel)))

abbrev pub take_after : State → ℕ → Result Cargo Refusal → State
take_after s channel (Ok h) = taken_from s (channel_at channel)
take_after s channel (Err e) = s

-- the caller's bytes
abbrev pub take_bytes : List ℕ → Result Cargo Refusal → List ℕ
take_bytes bytes (Ok h) = h.content
take_bytes bytes (Err e) = bytes

-- a slip is refused where none of its channel is out
abbrev pub return_refusal : State → Channel → Option Refusal
return_refusal s channel = cond ((record_of s.core channel).slips == 0) (Some NoSlip) None

-- and is then handed back
abbrev pub return_answer : Slip → Option Refusal → Result (Unit {0}) (Refusal × Slip)
return_answer slip None = Ok tt
return_answer slip (Some e) = Err (e, slip)

abbrev pub return_after : State → Channel → Option Refusal → State
return_after s channel None =
    with_core s (with_record s.core channel (slip_back (record_of s.core channel) (capacity_of s channel)))
return_after s channel (Some e) = s
