-- Loading: everything that enters the output buffer.
use Rattle.std.specs.Prelude.{ℕ, ◌-◌, Bool, [], ◌∷◌, ◌++◌, length, nat_lt}
use Rattle.frame.specs.declared.channel.Channel.{Channel}
use Rattle.numbers.specs.Round.{after}
use Rattle.link.specs.declared.micropacket.Body.{Body}
use Rattle.link.specs.declared.micropacket.Cargo.{Cargo}
use Rattle.link.specs.declared.micropacket.Micropacket.{Micropacket}
use Rattle.link.specs.declared.record.ChannelRecord.{ChannelRecord}
use Rattle.link.specs.declared.record.Core.{Core}
use Rattle.link.specs.Checking.{check_after}
use Rattle.link.specs.Credit.{update_of, updated}
use Rattle.link.specs.Numbering.{numbers}
use Rattle.link.specs.Records.{record_of, with_record}
use Rattle.link.specs.States.{State, with_core, with_output}

-- the number after a load: the next one, round the end
abbrev pub numbered : Core → Core
numbered c = record c { next = after numbers c.next }

-- whether the window has a free place
abbrev pub has_room : State → Bool
has_room s = nat_lt (length s.output) s.window

-- what a load appends: the body with the next number and the credit update
abbrev pub micropacket_of : Core → Body → Micropacket
micropacket_of c body =
    record { body = body; vcr = (update_of c).0; cr = (update_of c).1; tseq = c.next }

abbrev pub loaded : State → Body → State
loaded s body =
    with_output (with_core s (numbered (updated s.core))) (s.output ++ micropacket_of s.core body ∷ [])

-- a Header, Data or Admin with the check that goes with it
abbrev pub body_of : Core → Channel → Cargo → Body
body_of c channel cargo =
    record {
      channel = channel;
      cargo = cargo;
      ecrc = check_after cargo.kind (record_of c channel).check_out cargo.content;
    }

-- it takes one credit of its channel and moves the running check on; so many bytes of its Message are to come
abbrev pub spent : ChannelRecord → ℕ → ℕ → ChannelRecord
spent r check left = record r { credit = r.credit - 1; left = left; check_out = check }

unfoldable pub put : State → Body → ℕ → State
put s body left =
    loaded
    (with_core s (with_record s.core body.channel (spent (record_of s.core body.channel) body.ecrc left)))
    body
