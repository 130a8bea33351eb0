-- Receiving: what becomes of a frame that is handed in.
use Rattle.std.specs.Prelude.{ℕ, ◌-◌, Bool, true, cond, List, [], ◌∷◌, ◌++◌, length, Some, None, Ok, Option, Result, ◌==◌, nat_lt, slice_set}
use Rattle.frame.specs.declared.channel.Channel.{Channel}
use Rattle.frame.specs.declared.parts.Parts.{Parts}
use Rattle.frame.specs.declared.refusal.Refusal.{Refusal}
use Rattle.frame.specs.Naming.{channel_number}
use Rattle.frame.specs.Parts.{taken_apart}
use Rattle.numbers.specs.Round.{due}
use Rattle.link.specs.declared.answer.Answer.{Answer}
use Rattle.link.specs.declared.answer.Answer.TheVariants.{Accepted, Null, Shut, Discarded}
use Rattle.link.specs.declared.answer.Answer.TheVariants as answers
use Rattle.link.specs.declared.answer.Cause.{Cause}
use Rattle.link.specs.declared.answer.Cause.TheVariants as causes
use Rattle.link.specs.declared.event.Event.TheVariants.{LcrcError, TseqError, EcrcError, BufferOverflow}
use Rattle.link.specs.declared.micropacket.Cargo.{Cargo}
use Rattle.link.specs.declared.phase.Phase.{Phase}
use Rattle.link.specs.declared.phase.Phase.TheVariants.{Normal, Shutdown}
use Rattle.link.specs.declared.record.ChannelRecord.{ChannelRecord}
use Rattle.link.specs.declared.record.Core.{Core}
use Rattle.link.specs.declared.sort.Sort.{Sort}
use Rattle.link.specs.declared.sort.Sort.TheVariants.{Idle, Control, Credit, Afresh, Onward}
use Rattle.link.specs.Acknowledging.{acknowledged, credited, accepted_core}
use Rattle.link.specs.Checking.{sort_of, check_after}
use Rattle.link.specs.Log.{logged}
use Rattle.link.specs.Numbering.{numbers, no_number}
use Rattle.link.specs.Outcomes.{and_then}
use Rattle.link.specs.Records.{record_of, with_record}
use Rattle.link.specs.Repeating.{shut_down}
use Rattle.link.specs.States.{State, with_core, with_held, held_on, capacity_of}

-- a frame taken apart; any length but 40 is refused
unfoldable pub read_made : List ℕ → Result Parts Refusal
read_made frame = taken_apart frame

-- whether a TSEQ is right: a sequenced micropacket has the number due after the last accepted, any other has none
unfoldable pub in_turn : Core → Sort → ℕ → Bool
in_turn c Idle tseq = tseq == no_number
in_turn c Control tseq = tseq == no_number
in_turn c Credit tseq = tseq == due numbers c.accepted
in_turn c Afresh tseq = tseq == due numbers c.accepted
in_turn c Onward tseq = tseq == due numbers c.accepted

-- the end-to-end check that a received micropacket should have
unfoldable pub check_due : Core → Parts → ℕ
check_due c r = check_after r.fields.kind (record_of c r.fields.vc).check_in r.content

-- whether the one that it has is right; with ERROR it is not looked at
unfoldable pub end_right : Core → Sort → Parts → Bool
end_right c Idle r = true
end_right c Control r = true
end_right c Credit r = true
end_right c Afresh r = cond r.fields.error true (r.fields.ecrc == check_due c r)
end_right c Onward r = cond r.fields.error true (r.fields.ecrc == check_due c r)

-- why a frame is discarded: the first of these
abbrev pub cause_in : Phase → Core → Parts → Option Cause
cause_in Shutdown c r = Some causes.State
cause_in Normal c r =
    cond (r.syndrome == 0x06A9) (Some causes.Stomped)
    (cond (r.syndrome == 0)
    (cond (in_turn c (sort_of r.fields.kind) r.fields.tseq)
    (cond (end_right c (sort_of r.fields.kind) r) None (Some causes.Ecrc))
    (Some causes.Tseq))
    (Some causes.Lcrc))

unfoldable pub cause_of : Core → Parts → Option Cause
cause_of c r = cause_in c.phase c r

-- a wrong TSEQ was logged
abbrev pub tseq_marked : Core → Core
tseq_marked c = record c { tseq_logged = true }

-- a discarded frame changes the log and nothing else; a wrong TSEQ is logged if it is the first or a sequenced
-- micropacket was accepted since the last one logged
unfoldable pub noted : State → Cause → State
noted s causes.State = s
noted s causes.Stomped = s
noted s causes.Lcrc = logged s LcrcError
noted s causes.Tseq = cond s.core.tseq_logged s (logged (with_core s (tseq_marked s.core)) TseqError)
noted s causes.Ecrc = logged s EcrcError

-- whether a channel's buffer has a free place, counting slips out
abbrev pub has_place : State → Channel → Bool
has_place s channel = nat_lt (record_of s.core channel).slips (capacity_of s channel - length (held_on s channel))

-- the running check of what is accepted moves on
abbrev pub moved : ChannelRecord → ℕ → ChannelRecord
moved r check = record r { check_in = check }

-- what a received micropacket carries, as its channel's buffer holds it
abbrev pub cargo_of : Parts → Cargo
cargo_of r =
    record { kind = r.fields.kind; tail = r.fields.tail; error = r.fields.error; content = r.content }

-- it enters its channel's buffer, and the running check moves by its data
unfoldable pub entered : State → Parts → State
entered s r =
    with_core
    (with_held s (slice_set s.held (channel_number r.fields.vc) (held_on s r.fields.vc ++ cargo_of r ∷ [])))
    (with_record s.core r.fields.vc (moved (record_of s.core r.fields.vc) (check_due s.core r)))

-- its channel's buffer is full
unfoldable pub overflowed : State → Channel → State
overflowed s channel = shut_down (logged s (BufferOverflow channel))

-- credit is read unless the end has shut down
abbrev pub credited_in : Phase → State → Parts → State
credited_in Normal s r = credited s r.fields.vcr r.fields.cr
credited_in Shutdown s r = s

abbrev pub credit_read : State → Parts → State
credit_read s r = credited_in s.core.phase s r

-- a sequenced micropacket is accepted; then its RSEQ is read, and then its credit
unfoldable pub sequenced : State → Parts → State
sequenced s r =
    credit_read (acknowledged (with_core s (accepted_core s.core r.fields.tseq)) r.fields.rseq) r

-- one for a channel enters first, or overflows
unfoldable pub carried_in : State → Parts → State
carried_in s r =
    cond (has_place s r.fields.vc) (sequenced (entered s r) r) (overflowed s r.fields.vc)

-- what a frame does that is not discarded; control ends there
unfoldable pub admitted : Sort → State → Parts → State
admitted Idle s r = acknowledged s r.fields.rseq
admitted Control s r = s
admitted Credit s r = sequenced s r
admitted Afresh s r = carried_in s r
admitted Onward s r = carried_in s r

-- the answer where this call did not shut the end down
abbrev pub answer_for : Sort → Answer
answer_for Idle = Null
answer_for Control = answers.Control
answer_for Credit = Accepted
answer_for Afresh = Accepted
answer_for Onward = Accepted

abbrev pub outcome : Phase → Sort → Answer
outcome Normal sort = answer_for sort
outcome Shutdown sort = Shut

-- the end after a frame that is discarded for a cause, or for none
abbrev pub judged_by : State → Parts → Option Cause → State
judged_by s r (Some cause) = noted s cause
judged_by s r None = admitted (sort_of r.fields.kind) s r

unfoldable pub judged : State → Parts → State
judged s r = judged_by s r (cause_of s.core r)

-- and the answer
abbrev pub verdict_by : State → Parts → Option Cause → Answer
verdict_by s r (Some cause) = Discarded cause
verdict_by s r None = outcome (admitted (sort_of r.fields.kind) s r).core.phase (sort_of r.fields.kind)

unfoldable pub verdict : State → Parts → Answer
verdict s r = verdict_by s r (cause_of s.core r)

-- what is received
abbrev pub receive_found : State → List ℕ → Result State Refusal
receive_found s frame = and_then (read_made frame) (λ r. Ok (judged s r))

abbrev pub receive_answer : State → List ℕ → Result Answer Refusal
receive_answer s frame = and_then (read_made frame) (λ r. Ok (verdict s r))
