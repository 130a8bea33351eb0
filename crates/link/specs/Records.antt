-- The numbers of an end, and what is done to them.
use Rattle.std.specs.Prelude.{ℕ, ◌+◌, ◌-◌, min, false, cond, List, [], ◌∷◌, replicate, None, ◌==◌, nat_lt, slice_index, slice_index_or, slice_set}
use Rattle.frame.specs.declared.channel.Channel.{Channel}
use Rattle.frame.specs.declared.channel.Channel.TheVariants.{Vc3}
use Rattle.frame.specs.Naming.{channel_number}
use Rattle.link.specs.declared.phase.Phase.TheVariants.{Normal}
use Rattle.link.specs.declared.record.ChannelRecord.{ChannelRecord}
use Rattle.link.specs.declared.record.Core.{Core}

-- the most credit that a channel can have, and so the largest capacity
abbrev pub most_credit : ℕ
most_credit = 255

-- the capacity of a channel's buffer over so many elements
abbrev pub capacity_over : ℕ → ℕ
capacity_over elements = min most_credit elements

-- the register that an end-to-end check begins with
abbrev pub check_start : ℕ
check_start = 0xFFFF

-- a channel of a new end: no credit, and all its capacity waits as credit
abbrev pub new_record : ℕ → ChannelRecord
new_record capacity =
    record { credit = 0; waiting = capacity; slips = 0; left = 0; check_out = check_start; check_in = check_start }

abbrev pub no_record : ChannelRecord
no_record = record { credit = 0; waiting = 0; slips = 0; left = 0; check_out = 0; check_in = 0 }

-- the record of a channel
abbrev pub record_of : Core → Channel → ChannelRecord
record_of c channel = slice_index_or c.channels (channel_number channel) no_record

-- 0 stands for a limit of 2
abbrev pub limit_of : ℕ → ℕ
limit_of n = cond (n == 0) 2 n

-- the numbers of a new end: Channel 0 is the next that a credit update names
abbrev pub new_core : ℕ → List ℕ → Core
new_core limit capacities =
    record {
      phase = Normal;
      limit = limit_of limit;
      repeats = 0;
      place = 0;
      sent = 0;
      next = 0;
      accepted = None;
      taken = None;
      named = Vc3;
      tseq_logged = false;
      channels =
          new_record (slice_index capacities 0) ∷ new_record (slice_index capacities 1)
          ∷ new_record (slice_index capacities 2) ∷ new_record (slice_index capacities 3) ∷ [];
      counters = replicate 15 0;
    }

-- the numbers with the records of the channels changed
abbrev pub with_channels : Core → List ChannelRecord → Core
with_channels c channels = record c { channels = channels }

-- the record of one channel is another, and no other is
abbrev pub with_record : Core → Channel → ChannelRecord → Core
with_record c channel r = with_channels c (slice_set c.channels (channel_number channel) r)

-- one more slip is out
abbrev pub slip_out : ChannelRecord → ChannelRecord
slip_out r = record r { slips = min (r.slips + 1) 18446744073709551615 }

-- a slip is back, and one more credit waits, up to the capacity
abbrev pub slip_back : ChannelRecord → ℕ → ChannelRecord
slip_back r capacity =
    record r {
      waiting = cond (nat_lt r.waiting capacity) (r.waiting + 1) r.waiting;
      slips = r.slips - 1;
    }
