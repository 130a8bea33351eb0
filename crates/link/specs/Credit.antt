-- Credit: what is told to the peer, and what it tells.
use Rattle.std.specs.Prelude.{ℕ, ◌-◌, min, Bool, cond, Some, None, Option, nat_lt}
use Rattle.frame.specs.declared.channel.Channel.{Channel}
use Rattle.frame.specs.declared.channel.Channel.TheVariants.{Vc0, Vc1, Vc2, Vc3}
use Rattle.link.specs.declared.record.ChannelRecord.{ChannelRecord}
use Rattle.link.specs.declared.record.Core.{Core}
use Rattle.link.specs.Records.{record_of, with_record}

-- the channels follow each other in a circle
abbrev pub channel_after : Channel → Channel
channel_after Vc0 = Vc1
channel_after Vc1 = Vc2
channel_after Vc2 = Vc3
channel_after Vc3 = Vc0

-- whether credit of a channel waits to be told
abbrev pub waits : Core → Channel → Bool
waits c channel = nat_lt 0 (record_of c channel).waiting

-- the first of three channels, or else a fourth, whose credit waits
abbrev pub first_waiting : Core → Channel → Channel → Channel → Channel → Option Channel
first_waiting c first second third last =
    cond (waits c first) (Some first)
    (cond (waits c second) (Some second)
    (cond (waits c third) (Some third)
    (cond (waits c last) (Some last) None)))

-- the next channel after the one last named, round the circle, whose credit waits
abbrev pub next_waiting : Core → Option Channel
next_waiting c =
    first_waiting c (channel_after c.named) (channel_after (channel_after c.named))
    (channel_after (channel_after (channel_after c.named))) c.named

-- how much one micropacket tells of what waits: at most 63
abbrev pub told : ChannelRecord → ℕ
told r = min r.waiting 63

abbrev pub told_off : ChannelRecord → ChannelRecord
told_off r = record r { waiting = r.waiting - told r }

abbrev pub with_named : Core → Channel → Core
with_named c channel = record c { named = channel }

-- VCR and CR of a load: both 0 where no credit waits
abbrev pub update_at : Core → Option Channel → Channel × ℕ
update_at c (Some channel) = (channel, told (record_of c channel))
update_at c None = (Vc0, 0)

abbrev pub update_of : Core → Channel × ℕ
update_of c = update_at c (next_waiting c)

-- the numbers after it: what was told waits no more, and its channel is the one last named
abbrev pub updated_at : Core → Option Channel → Core
updated_at c (Some channel) = with_named (with_record c channel (told_off (record_of c channel))) channel
updated_at c None = c

abbrev pub updated : Core → Core
updated c = updated_at c (next_waiting c)
