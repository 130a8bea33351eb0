-- Acknowledgements and credit from the peer.
use Rattle.std.specs.Prelude.{ℕ, ◌+◌, ◌-◌, min, false, cond, drop, Some, None, Option, option_map, unwrap_or, ◌==◌, nat_lt}
use Rattle.std.specs.List.{slice_get}
use Rattle.frame.specs.declared.channel.Channel.{Channel}
use Rattle.numbers.specs.Round.{freed_at_once}
use Rattle.link.specs.declared.event.Event.TheVariants.{RseqOutOfRangeError, CreditOverflow}
use Rattle.link.specs.declared.record.ChannelRecord.{ChannelRecord}
use Rattle.link.specs.declared.record.Core.{Core}
use Rattle.link.specs.Log.{logged}
use Rattle.link.specs.Numbering.{numbers, no_number}
use Rattle.link.specs.Records.{most_credit, record_of, with_record}
use Rattle.link.specs.Repeating.{repeated, shut_down}
use Rattle.link.specs.States.{State, with_core, with_output}

-- the TSEQ of the oldest micropacket held; where none is, it does not matter
abbrev pub oldest_of : State → ℕ
oldest_of s = unwrap_or (option_map (λ m. m.tseq) (slice_get s.output 0)) 0

-- how many an acknowledgement frees, of those still held and ever sent; none where it is illegal
unfoldable pub freed_by : State → ℕ → Option ℕ
freed_by s rseq = freed_at_once numbers s.core.taken (oldest_of s) s.core.sent rseq

-- a new acknowledgement, of so many: a sending place before the oldest held moves up to that, and repeats are
-- counted from here
abbrev pub acked_core : Core → ℕ → ℕ → Core
acked_core c count rseq = record c { repeats = 0; place = c.place - count; sent = c.sent - count; taken = Some rseq }

-- the oldest leave the output buffer, by a new acknowledgement if there are any
unfoldable pub freed_front : State → ℕ → ℕ → State
freed_front s count rseq =
    cond (count == 0) s (with_output (with_core s (acked_core s.core count rseq)) (drop count s.output))

abbrev pub acknowledged_by : State → ℕ → Option ℕ → State
acknowledged_by s rseq (Some count) = freed_front s count rseq
acknowledged_by s rseq None = repeated (logged s RseqOutOfRangeError)

-- an RSEQ is read: none is ignored, a legal one frees, and any other is logged and starts a repeat
unfoldable pub acknowledged : State → ℕ → State
acknowledged s rseq = cond (rseq == no_number) s (acknowledged_by s rseq (freed_by s rseq))

abbrev pub gained : ChannelRecord → ℕ → ChannelRecord
gained r cr = record r { credit = min (r.credit + cr) most_credit }

-- credit is read: what would pass the most there can be is not taken, is logged and shuts down
unfoldable pub credited : State → Channel → ℕ → State
credited s channel cr =
    cond (nat_lt most_credit ((record_of s.core channel).credit + cr))
    (shut_down (logged s (CreditOverflow channel)))
    (with_core s (with_record s.core channel (gained (record_of s.core channel) cr)))

-- a sequenced micropacket is accepted
abbrev pub accepted_core : Core → ℕ → Core
accepted_core c tseq = record c { accepted = Some tseq; tseq_logged = false }
