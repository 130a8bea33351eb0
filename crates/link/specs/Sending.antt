-- Sending: one frame for each call, whatever there is to send.
use Rattle.std.specs.Prelude.{ℕ, ◌+◌, min, max, Bool, false, cond, List, Some, None, Option, is_some}
use Rattle.std.specs.List.{slice_get}
use Rattle.frame.specs.declared.channel.Channel.TheVariants.{Vc0}
use Rattle.frame.specs.declared.fields.Fields.{Fields}
use Rattle.frame.specs.declared.kind.Kind.{Kind}
use Rattle.frame.specs.declared.kind.Kind.TheVariants.{Null, CreditOnly}
use Rattle.frame.specs.declared.refusal.Refusal.{Refusal}
use Rattle.frame.specs.Checks.{sealed}
use Rattle.frame.specs.Layout.{frame_of}
use Rattle.link.specs.declared.micropacket.Body.{Body}
use Rattle.link.specs.declared.micropacket.Micropacket.{Micropacket}
use Rattle.link.specs.declared.phase.Phase.{Phase}
use Rattle.link.specs.declared.phase.Phase.TheVariants.{Normal, Shutdown}
use Rattle.link.specs.declared.record.Core.{Core}
use Rattle.link.specs.declared.sent.Sent.{Sent}
use Rattle.link.specs.Checking.{zeros, idle_check}
use Rattle.link.specs.Credit.{next_waiting}
use Rattle.link.specs.Loading.{has_room, micropacket_of, loaded}
use Rattle.link.specs.Numbering.{no_number}
use Rattle.link.specs.Standings.{rseq_of}
use Rattle.link.specs.States.{State, with_core}

-- a Null or Credit-only: channel 0, 32 zero bytes and their check begun afresh
abbrev pub idle_body : Kind → Body
idle_body kind =
    record {
      channel = Vc0;
      cargo = record { kind = kind; tail = false; error = false; content = zeros };
      ecrc = idle_check;
    }

-- a Null tells no credit and has no number
abbrev pub null_micropacket : Micropacket
null_micropacket =
    record { body = idle_body Null; vcr = Vc0; cr = 0; tseq = no_number }

-- the fields of a micropacket in a frame that carries an RSEQ, before the link check
abbrev pub fields_at : Micropacket → ℕ → Fields
fields_at m rseq =
    record {
      vc = m.body.channel;
      kind = m.body.cargo.kind;
      tail = m.body.cargo.tail;
      error = m.body.cargo.error;
      vcr = m.vcr;
      cr = min m.cr 63;
      rseq = rseq;
      tseq = m.tseq;
      ecrc = m.body.ecrc;
      lcrc = 0;
    }

-- its frame, with a fresh link check
unfoldable pub frame_at : Micropacket → ℕ → List ℕ
frame_at m rseq = sealed (frame_of (fields_at m rseq) m.body.cargo.content)

-- the caller's bytes
abbrev pub written : Option Refusal → Micropacket → ℕ → List ℕ → List ℕ
written None m rseq bytes = frame_at m rseq
written (Some e) m rseq bytes = bytes

-- the sending place moves on, and what was ever sent with it
abbrev pub stepped : Core → Core
stepped c = record c { place = min (c.place + 1) 4294967295; sent = max c.sent (min (c.place + 1) 4294967295) }

abbrev pub moved_on : State → State
moved_on s = with_core s (stepped s.core)

abbrev pub credit_waits : Core → Bool
credit_waits c = is_some (next_waiting c)

-- what is given where the sending place holds nothing: where credit waits and the window has a free place, a
-- Credit-only is loaded and given; else a Null is given
unfoldable pub credit_given : State → Micropacket
credit_given s =
    cond (credit_waits s.core)
    (cond (has_room s) (micropacket_of s.core (idle_body CreditOnly)) null_micropacket) null_micropacket

unfoldable pub credit_gone : State → State
credit_gone s =
    cond (credit_waits s.core) (cond (has_room s) (moved_on (loaded s (idle_body CreditOnly))) s) s

-- what is given where the sending place holds this or nothing, and the end after it
abbrev pub given_at : State → Option Micropacket → Micropacket
given_at s (Some m) = m
given_at s None = credit_given s

abbrev pub gone_at : State → Option Micropacket → State
gone_at s (Some m) = moved_on s
gone_at s None = credit_gone s

-- Shutdown gives Nulls
abbrev pub given_in : Phase → State → Micropacket
given_in Normal s = given_at s (slice_get s.output s.core.place)
given_in Shutdown s = null_micropacket

abbrev pub gone_in : Phase → State → State
gone_in Normal s = gone_at s (slice_get s.output s.core.place)
gone_in Shutdown s = s

unfoldable pub given : State → Micropacket
given s = given_in s.core.phase s

unfoldable pub gone : State → State
gone s = gone_in s.core.phase s

-- what is told of a frame that was given
abbrev pub sent_of : State → Sent
sent_of s = record { kind = (given s).body.cargo.kind; tseq = (given s).tseq; rseq = rseq_of s.core }

abbrev pub send_after : Option Refusal → State → State
send_after None s = gone s
send_after (Some e) s = s
