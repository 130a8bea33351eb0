-- The calls of an end, each with its arguments: what it refuses, and what the end is after it.
use Rattle.std.specs.Prelude.{ℕ, List, Option}
use Rattle.std.specs.List.{slice_get}
use Rattle.std.specs.Result.{result_err}
use Rattle.frame.specs.declared.channel.Channel.{Channel}
use Rattle.frame.specs.declared.refusal.Refusal.{Refusal}
use Rattle.frame.specs.Codec.{frame_refusal}
use Rattle.link.specs.Log.{or_nothing, after_event}
use Rattle.link.specs.Messages.{open_found, add_found, cut_found, admin_found}
use Rattle.link.specs.Outcomes.{end_after}
use Rattle.link.specs.Receiving.{receive_found}
use Rattle.link.specs.Repeating.{timeout_found}
use Rattle.link.specs.Sending.{send_after}
use Rattle.link.specs.States.{State}
use Rattle.link.specs.Taking.{take_found, take_after, return_refusal, return_after}

pub data Call : Type 0 where
  -- channel, destination, source, EtherType, payload length, first piece
  opens : ℕ → List ℕ → List ℕ → ℕ → ℕ → List ℕ → Call
  adds : ℕ → List ℕ → Call
  cuts : ℕ → Call
  admins : ℕ → List ℕ → Call
  -- with a buffer of so many bytes
  sends : ℕ → Call
  receives : List ℕ → Call
  times_out : Call
  -- channel, and a buffer of so many bytes
  takes : ℕ → ℕ → Call
  -- a slip of a channel
  returns : Channel → Call
  reads_event : Call

-- an end after a call
abbrev pub step : Call → State → State
step (opens channel destination source ether_type total first) s =
    end_after s (open_found s channel destination source ether_type total first)
step (adds channel bytes) s = end_after s (add_found s channel bytes)
step (cuts channel) s = end_after s (cut_found s channel)
step (admins channel bytes) s = end_after s (admin_found s channel bytes)
step (sends size) s = send_after (frame_refusal size) s
step (receives frame) s = end_after s (receive_found s frame)
step times_out s = end_after s (timeout_found s)
step (takes channel size) s = take_after s channel (take_found s channel size)
step (returns channel) s = return_after s channel (return_refusal s channel)
step reads_event s = after_event s

-- why a call is refused, if it is
abbrev pub refusal_of : Call → State → Option Refusal
refusal_of (opens channel destination source ether_type total first) s =
    result_err (open_found s channel destination source ether_type total first)
refusal_of (adds channel bytes) s = result_err (add_found s channel bytes)
refusal_of (cuts channel) s = result_err (cut_found s channel)
refusal_of (admins channel bytes) s = result_err (admin_found s channel bytes)
refusal_of (sends size) s = frame_refusal size
refusal_of (receives frame) s = result_err (receive_found s frame)
refusal_of times_out s = result_err (timeout_found s)
refusal_of (takes channel size) s = result_err (take_found s channel size)
refusal_of (returns channel) s = return_refusal s channel
refusal_of reads_event s = result_err (or_nothing (slice_get s.events 0))

-- the calls that load what they are given
abbrev pub Loads : Call → Type 0
Loads (opens channel destination source ether_type total first) = Unit {0}
Loads (adds channel bytes) = Unit {0}
Loads (cuts channel) = Unit {0}
Loads (admins channel bytes) = Unit {0}
Loads (sends size) = ⊥
Loads (receives frame) = ⊥
Loads times_out = ⊥
Loads (takes channel size) = ⊥
Loads (returns channel) = ⊥
Loads reads_event = ⊥
