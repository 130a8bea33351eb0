-- The names of phases, events, answers and causes, as people read them, and the counter of each event.
use Rattle.std.specs.Prelude.{ℕ, ◌+◌, List, Some, None, codes, Option}
use Rattle.frame.specs.declared.channel.Channel.{Channel}
use Rattle.frame.specs.Naming.{channel_number}
use Rattle.link.specs.declared.phase.Phase.{Phase}
use Rattle.link.specs.declared.phase.Phase.TheVariants.{Normal, Shutdown}
use Rattle.link.specs.declared.event.Event.{Event}
use Rattle.link.specs.declared.event.Event.TheVariants.{LcrcError, TseqError, EcrcError, RseqMissingError, RseqOutOfRangeError, RetryCount, RetryFailureError, BufferOverflow, CreditOverflow}
use Rattle.link.specs.declared.answer.Answer.{Answer}
use Rattle.link.specs.declared.answer.Answer.TheVariants.{Accepted, Null, Control, Shut, Discarded}
use Rattle.link.specs.declared.answer.Cause.{Cause}
use Rattle.link.specs.declared.answer.Cause.TheVariants.{State, Stomped, Lcrc, Tseq, Ecrc}

abbrev pub phase_name : Phase → List ℕ
phase_name Normal = codes "Normal"
phase_name Shutdown = codes "Shutdown"

abbrev pub event_name : Event → List ℕ
event_name LcrcError = codes "LCRC_Error"
event_name TseqError = codes "TSEQ_Error"
event_name EcrcError = codes "ECRC_Error"
event_name RseqMissingError = codes "RSEQ_Missing_Error"
event_name RseqOutOfRangeError = codes "RSEQ_Out_Of_Range_Error"
event_name RetryCount = codes "Retry_Count"
event_name RetryFailureError = codes "Retry_Failure_Error"
event_name (BufferOverflow channel) = codes "VC_RX_VC_Buffer_Overflow"
event_name (CreditOverflow channel) = codes "VC_Credit_Overflow"

-- the channel of an event that has one
abbrev pub event_channel : Event → Option Channel
event_channel LcrcError = None
event_channel TseqError = None
event_channel EcrcError = None
event_channel RseqMissingError = None
event_channel RseqOutOfRangeError = None
event_channel RetryCount = None
event_channel RetryFailureError = None
event_channel (BufferOverflow channel) = Some channel
event_channel (CreditOverflow channel) = Some channel

-- where the counter of an event stands: those of a channel have four
abbrev pub event_place : Event → ℕ
event_place LcrcError = 0
event_place TseqError = 1
event_place EcrcError = 2
event_place RseqMissingError = 3
event_place RseqOutOfRangeError = 4
event_place RetryCount = 5
event_place RetryFailureError = 6
event_place (BufferOverflow channel) = 7 + channel_number channel
event_place (CreditOverflow channel) = 11 + channel_number channel

abbrev pub answer_name : Answer → List ℕ
answer_name Accepted = codes "accepted"
answer_name Null = codes "null"
answer_name Control = codes "control"
answer_name Shut = codes "shut"
answer_name (Discarded cause) = codes "discarded"

abbrev pub cause_name : Cause → List ℕ
cause_name State = codes "state"
cause_name Stomped = codes "stomped"
cause_name Lcrc = codes "LCRC"
cause_name Tseq = codes "TSEQ"
cause_name Ecrc = codes "ECRC"
