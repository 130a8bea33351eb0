-- What can be seen of an end from outside.
use Rattle.std.specs.Prelude.{ℕ, List, [], ◌∷◌, length}
use Rattle.frame.specs.declared.channel.Channel.{Channel}
use Rattle.frame.specs.declared.channel.Channel.TheVariants.{Vc0, Vc1, Vc2, Vc3}
use Rattle.link.specs.declared.phase.Phase.{Phase}
use Rattle.link.specs.declared.phase.Phase.TheVariants.{Normal, Shutdown}
use Rattle.link.specs.declared.record.Core.{Core}
use Rattle.link.specs.declared.standing.ChannelStanding.{ChannelStanding}
use Rattle.link.specs.declared.standing.Standing.{Standing}
use Rattle.link.specs.Numbering.{no_number, carried}
use Rattle.link.specs.Records.{record_of}
use Rattle.link.specs.States.{State, held_on}

-- the RSEQ that an end sends: the last accepted TSEQ; none in Shutdown
abbrev pub rseq_in : Phase → Core → ℕ
rseq_in Normal c = carried c.accepted
rseq_in Shutdown c = no_number

abbrev pub rseq_of : Core → ℕ
rseq_of c = rseq_in c.phase c

-- something of each channel, in order
abbrev pub each : {X : Type 0} → (Channel → X) → List X
each f = f Vc0 ∷ f Vc1 ∷ f Vc2 ∷ f Vc3 ∷ []

-- what can be seen of one channel
abbrev pub channel_standing : State → Channel → ChannelStanding
channel_standing s channel =
    record {
      credit = (record_of s.core channel).credit;
      waiting = (record_of s.core channel).waiting;
      held = length (held_on s channel);
      slips = (record_of s.core channel).slips;
    }

abbrev pub standing_of : State → Standing
standing_of s =
    record {
      phase = s.core.phase;
      window = s.window;
      output = length s.output;
      place = s.core.place;
      sent = s.core.sent;
      rseq = rseq_of s.core;
      repeats = s.core.repeats;
      limit = s.core.limit;
      channels = each (λ channel. channel_standing s channel);
    }
