-- Loading Messages and Admins: what is refused, tried from the top, and what an end is after it.
use Rattle.std.specs.Prelude.{ℕ, ◌-◌, Bool, true, false, cond, List, length, Ok, Err, Result, ◌==◌, nat_le, nat_lt}
use Rattle.frame.specs.declared.channel.Channel.{Channel}
use Rattle.frame.specs.declared.channel.Channel.TheVariants.{Vc1, Vc2}
use Rattle.frame.specs.declared.kind.Kind.{Kind}
use Rattle.frame.specs.declared.kind.Kind.TheVariants.{Data, Header, Admin}
use Rattle.frame.specs.declared.refusal.Refusal.{Refusal}
use Rattle.frame.specs.declared.refusal.Refusal.TheVariants.{BadChannel, MessageOpen, NoMessage, TooLong, WindowFull, NoCredit}
use Rattle.frame.specs.Checks.{data_refusal}
use Rattle.frame.specs.Codec.{or_else}
use Rattle.frame.specs.Naming.{channel_or}
use Rattle.message.specs.declared.opening.Opening.{Opening}
use Rattle.message.specs.Making.{longest_payload, header_refusal, header_bytes, piece_refusal, piece_bytes}
use Rattle.link.specs.declared.micropacket.Cargo.{Cargo}
use Rattle.link.specs.Checking.{zeros}
use Rattle.link.specs.Loading.{has_room, body_of, put}
use Rattle.link.specs.Outcomes.{and_then, if_normal}
use Rattle.link.specs.Records.{record_of}
use Rattle.link.specs.States.{State}

-- a channel above 3, and then an end that is not Normal
abbrev pub ready : State → ℕ → Result Channel Refusal
ready s channel = and_then (channel_or channel) (λ ch. if_normal s.core.phase (Ok ch))

-- no free place in the window, and then no credit
abbrev pub with_room : State → Channel → Result (Unit {0}) Refusal
with_room s channel =
    cond (has_room s) (cond ((record_of s.core channel).credit == 0) (Err NoCredit) (Ok tt)) (Err WindowFull)

-- the data of a Header: refused where the payload is too long for its channel, and then where something does not fit
unfoldable pub heading_made : Channel → List ℕ → List ℕ → ℕ → ℕ → List ℕ → Result (List ℕ) Refusal
heading_made channel destination source ether_type total first =
    cond (nat_lt (longest_payload channel) total) (Err TooLong)
    (or_else (header_refusal (length destination) (length source) total (length first))
    (header_bytes destination source ether_type total first))

-- the data of a Data
abbrev pub piece_made : ℕ → List ℕ → Result (List ℕ) Refusal
piece_made left bytes = or_else (piece_refusal left (length bytes)) (piece_bytes bytes)

-- how many payload bytes of the open Message are to come; 0 where none is open
abbrev pub left_on : State → Channel → ℕ
left_on s channel = (record_of s.core channel).left

-- what a micropacket of a Message carries, and an Admin
abbrev pub cargo : Kind → Bool → Bool → List ℕ → Cargo
cargo kind tail error content = record { kind = kind; tail = tail; error = error; content = content }

-- a Header: TAIL where its bytes are the whole payload
abbrev pub open_found : State → ℕ → List ℕ → List ℕ → ℕ → ℕ → List ℕ → Result State Refusal
open_found s number destination source ether_type total first =
    and_then (ready s number) (λ channel.
    cond (nat_lt 0 (left_on s channel)) (Err MessageOpen)
    (and_then (heading_made channel destination source ether_type total first) (λ content.
    and_then (with_room s channel) (λ _.
    Ok (put s (body_of s.core channel (cargo Header (nat_le total 8) false content)) (total - 8))))))

-- the same of what the Message opens with
abbrev pub open_asked : State → ℕ → Opening → Result State Refusal
open_asked s number o = open_found s number o.destination.now o.source.now o.ether_type o.total o.first.now

-- a Data: TAIL where its bytes complete the payload
abbrev pub add_found : State → ℕ → List ℕ → Result State Refusal
add_found s number bytes =
    and_then (ready s number) (λ channel.
    cond (left_on s channel == 0) (Err NoMessage)
    (and_then (piece_made (left_on s channel) bytes) (λ content.
    and_then (with_room s channel) (λ _.
    Ok (put s (body_of s.core channel (cargo Data (nat_le (left_on s channel) 32) false content)) (left_on s channel - 32))))))

-- a Data of zeros with TAIL and ERROR, which ends the Message
abbrev pub cut_found : State → ℕ → Result State Refusal
cut_found s number =
    and_then (ready s number) (λ channel.
    cond (left_on s channel == 0) (Err NoMessage)
    (and_then (with_room s channel) (λ _.
    Ok (put s (body_of s.core channel (cargo Data true true zeros)) 0))))

-- the channels of an Admin
abbrev pub admin_channel : ℕ → Result Channel Refusal
admin_channel number = cond (number == 1) (Ok Vc1) (cond (number == 2) (Ok Vc2) (Err BadChannel))

-- an Admin, TAIL 1, not during a Message
abbrev pub admin_found : State → ℕ → List ℕ → Result State Refusal
admin_found s number bytes =
    and_then (admin_channel number) (λ channel.
    if_normal s.core.phase
    (cond (nat_lt 0 (left_on s channel)) (Err MessageOpen)
    (and_then (or_else (data_refusal (length bytes)) bytes) (λ content.
    and_then (with_room s channel) (λ _.
    Ok (put s (body_of s.core channel (cargo Admin true false content)) 0))))))
