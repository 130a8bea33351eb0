-- Fields and frames as people hand them in: what is refused, and what comes of the rest.
use Rattle.std.specs.Prelude.{ℕ, cond, List, length, Some, None, Ok, Err, Option, Result, ◌==◌, nat_lt}
use Rattle.std.specs.Borrow.{Bor}
use Rattle.frame.specs.declared.fields.Fields.{Fields}
use Rattle.frame.specs.declared.fields.Numbers.{Numbers}
use Rattle.frame.specs.declared.refusal.Refusal.{Refusal}
use Rattle.frame.specs.declared.refusal.Refusal.TheVariants.{BadChannel, BadSize}
use Rattle.frame.specs.Layout.{fields_of, frame_of}
use Rattle.frame.specs.Naming.{kind_at, channel_at}

-- a result, unless a refusal stands in its place
abbrev pub or_else : {X : Type 0} → Option Refusal → X → Result X Refusal
or_else None x = Ok x
or_else (Some e) x = Err e

-- numbers that are no fields: first the channels, then what does not fit
abbrev pub numbers_refusal : Numbers → Option Refusal
numbers_refusal n =
    cond (nat_lt 3 n.vc) (Some BadChannel)
    (cond (nat_lt 3 n.vcr) (Some BadChannel)
    (cond (nat_lt 15 n.kind) (Some BadSize)
    (cond (nat_lt 63 n.cr) (Some BadSize)
    (cond (nat_lt 255 n.rseq) (Some BadSize)
    (cond (nat_lt 255 n.tseq) (Some BadSize) None)))))

-- the fields of numbers that fit
abbrev pub fields_from : Numbers → Fields
fields_from n =
    record {
      vc = channel_at n.vc;
      kind = kind_at n.kind;
      tail = n.tail;
      error = n.error;
      vcr = channel_at n.vcr;
      cr = n.cr;
      rseq = n.rseq;
      tseq = n.tseq;
      ecrc = n.ecrc;
      lcrc = n.lcrc;
    }

-- the answer to numbers
abbrev pub from_numbers : Numbers → Result Fields Refusal
from_numbers n = or_else (numbers_refusal n) (fields_from n)

-- what is refused where n bytes are asked for: any other number of them
abbrev pub size_refusal : ℕ → ℕ → Option Refusal
size_refusal n size = cond (size == n) None (Some BadSize)

-- an answer that lends bytes, as the bytes that it lends
abbrev pub seen : Result (Bor (List ℕ)) Refusal → Result (List ℕ) Refusal
seen (Ok bytes) = Ok bytes.now
seen (Err e) = Err e

-- what is refused where a frame is to be read: any length but 40
abbrev pub frame_refusal : ℕ → Option Refusal
frame_refusal size = size_refusal 40 size

-- the answer where a frame is read
abbrev pub parsed : List ℕ → Result Fields Refusal
parsed frame = or_else (frame_refusal (length frame)) (fields_of frame)

-- what is refused where a frame is to be written: a CR above 63, data that are not 32 bytes, room for other than 40
abbrev pub emit_refusal : Fields → ℕ → ℕ → Option Refusal
emit_refusal f content frame =
    cond (nat_lt 63 f.cr) (Some BadSize) (cond (content == 32) (frame_refusal frame) (Some BadSize))

-- the frame's bytes after the call: as they were where it is refused
abbrev pub emitted : Option Refusal → Fields → List ℕ → List ℕ → List ℕ
emitted None f content frame = frame_of f content
emitted (Some e) f content frame = frame
