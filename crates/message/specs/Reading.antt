-- What a reader makes of a micropacket.
use Rattle.std.specs.Prelude.{ℕ, ◌+◌, ◌-◌, ◌*◌, ◌≤◌, min, Bool, true, false, cond, not, List, length, take, drop, Some, None, Ok, Err, Option, Result, ◌==◌, nat_le, nat_lt, slice_index}
use Rattle.std.specs.Str.{bytes_eq}
use Rattle.frame.specs.declared.channel.Channel.{Channel}
use Rattle.frame.specs.declared.kind.Kind.{Kind}
use Rattle.frame.specs.declared.kind.Kind.TheVariants.{Undefined0, Undefined1, Reset, ResetAck, Initialize, InitializeAck, Undefined6, Null, Data, Header, CreditOnly, Undefined11, Undefined12, Undefined13, Undefined14, Admin}
use Rattle.frame.specs.declared.refusal.Refusal.{Refusal}
use Rattle.frame.specs.declared.refusal.Refusal.TheVariants.{BadChannel, BadSize, Marked, OutOfStep, BadHeader, NoSpace}
use Rattle.frame.specs.Naming.{channel_at, channel_number, kind_at}
use Rattle.message.specs.declared.heading.Heading.{Heading}
use Rattle.message.specs.declared.reader.Reader.{Reader}
use Rattle.message.specs.declared.reader.Underway.{Underway}
use Rattle.message.specs.declared.reader.Read.{Read}
use Rattle.message.specs.declared.reader.Read.TheVariants as reads
use Rattle.message.specs.declared.reader.Taken.{Taken}
use Rattle.message.specs.declared.reader.Outcome.{Outcome}
use Rattle.message.specs.declared.reader.Part.{Part}
use Rattle.message.specs.declared.reader.Part.TheVariants.{First, Next, Alone, Foreign}
use Rattle.message.specs.Copying.{written}
use Rattle.message.specs.Making.{snap, longest_payload, m_len}

-- what each TYPE is to a Message; the undefined ones from 8 on count as Data
abbrev pub part_of : Kind → Part
part_of Undefined0 = Foreign
part_of Undefined1 = Foreign
part_of Reset = Foreign
part_of ResetAck = Foreign
part_of Initialize = Foreign
part_of InitializeAck = Foreign
part_of Undefined6 = Foreign
part_of Null = Foreign
part_of Data = Next
part_of Header = First
part_of CreditOnly = Foreign
part_of Undefined11 = Next
part_of Undefined12 = Next
part_of Undefined13 = Next
part_of Undefined14 = Next
part_of Admin = Alone

-- both or neither
abbrev pub agree : Bool → Bool → Bool
agree true b = b
agree false b = not b

-- numbers in the bytes from a place on, most significant first
abbrev pub two_at : ℕ → List ℕ → ℕ
two_at i xs = slice_index xs i * 256 + slice_index xs (i + 1)

abbrev pub four_at : ℕ → List ℕ → ℕ
four_at i xs = slice_index xs i * 16777216 + slice_index xs (i + 1) * 65536 + slice_index xs (i + 2) * 256 + slice_index xs (i + 3)

-- what a Header says
abbrev pub heading_in : List ℕ → Heading
heading_in content =
    record {
      destination = take 6 content;
      source = take 6 (drop 6 content);
      ether_type = two_at 22 content;
      size = four_at 12 content - 8;
    }

-- a new reader
abbrev pub fresh : Channel → Reader
fresh channel = record { channel = channel; message = None }

abbrev pub made_reader : ℕ → Result Reader Refusal
made_reader channel = cond (nat_lt channel 4) (Ok (fresh (channel_at channel))) (Err BadChannel)

-- a TAIL that does not tell whether the payload is complete
abbrev pub tail_refusal : Bool → Bool → Option Refusal
tail_refusal tail completes = cond (agree tail completes) None (Some OutOfStep)

-- the first of two refusals
abbrev pub first_of : Option Refusal → Option Refusal → Option Refusal
first_of None later = later
first_of (Some e) later = Some e

-- where the next piece of a Message goes, and how much is left from there on
abbrev pub place_of : Underway → ℕ
place_of u = min u.came u.heading.size

abbrev pub left_of : Underway → ℕ
left_of u = u.heading.size - place_of u

-- a piece of up to n bytes, of a payload of so many of which so many are left: the room for all of it, TAIL
abbrev pub carried_refusal : ℕ → ℕ → ℕ → Bool → ℕ → Option Refusal
carried_refusal n size left tail room = cond (nat_lt room size) (Some NoSpace) (tail_refusal tail (nat_le left n))

-- what comes of it, with the answer where more is to come, and the buffer
abbrev pub carried_on : ℕ → Underway → Option Underway
carried_on n u = cond (nat_le (left_of u) n) None (Some (record { heading = u.heading; came = place_of u + n }))

abbrev pub carried_outcome : ℕ → Underway → Read → Outcome
carried_outcome n u more = record { answer = cond (nat_le (left_of u) n) (reads.Complete u.heading) more; message = carried_on n u }

abbrev pub carried_buffer : ℕ → Underway → List ℕ → List ℕ → List ℕ
carried_buffer n u piece buffer = written (place_of u) (take (min (left_of u) n) piece) buffer

-- a Header that no Message on the channel begins with: LLC/SNAP, M_len
abbrev pub heading_refusal : Channel → List ℕ → Option Refusal
heading_refusal channel content =
    cond (bytes_eq (take 6 (drop 16 content)) snap)
    (cond (nat_lt (four_at 12 content) 8) (Some BadHeader)
    (cond (nat_lt (m_len (longest_payload channel)) (four_at 12 content)) (Some BadHeader) None))
    (Some BadHeader)

-- a Header where one is due: what it says, the room for its payload, TAIL
abbrev pub begin_refusal : Channel → Bool → List ℕ → ℕ → Option Refusal
begin_refusal channel tail content room =
    first_of (heading_refusal channel content) (carried_refusal 8 (heading_in content).size (heading_in content).size tail room)

abbrev pub begin_answer : List ℕ → Read
begin_answer content = cond (nat_le (heading_in content).size 8) (reads.Complete (heading_in content)) (reads.Begins (heading_in content))

abbrev pub begun : List ℕ → Option Underway
begun content = cond (nat_le (heading_in content).size 8) None (Some (record { heading = heading_in content; came = 8 }))

abbrev pub begun_buffer : List ℕ → List ℕ → List ℕ
begun_buffer content buffer = written 0 (take (min (heading_in content).size 8) (drop 24 content)) buffer

-- an Admin where one is due
abbrev pub alone_refusal : Bool → Option Refusal
alone_refusal tail = tail_refusal tail true

-- a Data where one is due: the room for the whole payload, TAIL
abbrev pub next_refusal : Underway → Bool → ℕ → Option Refusal
next_refusal u tail room = carried_refusal 32 u.heading.size (left_of u) tail room

abbrev pub next_answer : Underway → Read
next_answer u = cond (nat_le (left_of u) 32) (reads.Complete u.heading) (reads.Piece (place_of u) 32)

abbrev pub gone_on : Underway → Option Underway
gone_on u = carried_on 32 u

abbrev pub next_buffer : Underway → List ℕ → List ℕ → List ℕ
next_buffer u content buffer = carried_buffer 32 u content buffer

-- a reader with a Message under way, or none
abbrev pub with_message : Reader → Option Underway → Reader
with_message reader message = record { channel = reader.channel; message = message }

-- what was refused changes nothing
abbrev pub unless : {X : Type 0} → Option Refusal → X → X → X
unless None new old = new
unless (Some e) new old = old

-- outside a Message a Header or an Admin is due, inside it a Data
abbrev pub due_refusal : Option Underway → Part → Channel → Bool → List ℕ → ℕ → Option Refusal
due_refusal None First channel tail content room = begin_refusal channel tail content room
due_refusal None Next channel tail content room = Some OutOfStep
due_refusal None Alone channel tail content room = alone_refusal tail
due_refusal None Foreign channel tail content room = Some OutOfStep
due_refusal (Some u) First channel tail content room = Some OutOfStep
due_refusal (Some u) Next channel tail content room = next_refusal u tail room
due_refusal (Some u) Alone channel tail content room = Some OutOfStep
due_refusal (Some u) Foreign channel tail content room = Some OutOfStep

-- a Header
abbrev pub is_first : Part → Bool
is_first First = true
is_first Next = false
is_first Alone = false
is_first Foreign = false

-- the answer, the Message that is under way afterwards, and the buffer
abbrev pub due_answer : Option Underway → Part → List ℕ → Read
due_answer None part content = cond (is_first part) (begin_answer content) reads.Admin
due_answer (Some u) part content = next_answer u

abbrev pub due_message : Option Underway → Part → List ℕ → Option Underway
due_message None part content = cond (is_first part) (begun content) None
due_message (Some u) part content = gone_on u

abbrev pub due_outcome : Option Underway → Part → List ℕ → Outcome
due_outcome message part content = record { answer = due_answer message part content; message = due_message message part content }

abbrev pub due_buffer : Option Underway → Part → List ℕ → List ℕ → List ℕ
due_buffer None part content buffer = cond (is_first part) (begun_buffer content buffer) buffer
due_buffer (Some u) part content buffer = next_buffer u content buffer

-- a micropacket as it is handed to a reader
pub record Handed : Type 0 where
  pub channel : ℕ
  pub kind : ℕ
  pub tail : Bool
  pub error : Bool
  pub content : List ℕ

abbrev pub handed : Taken → Handed
handed t = record { channel = t.channel; kind = t.kind; tail = t.tail; error = t.error; content = t.content.now }

-- what its TYPE is to a Message
abbrev pub part_in : Handed → Part
part_in p = part_of (kind_at p.kind)

-- what is refused of numbers and bytes that are no micropacket
abbrev pub shape_refusal : ℕ → ℕ → ℕ → Option Refusal
shape_refusal channel kind size =
    cond (nat_lt channel 4) (cond (size == 32) (cond (nat_lt kind 16) None (Some BadSize)) (Some BadSize)) (Some BadChannel)

-- what is refused of a micropacket: ERROR, another channel than the reader's, and what is not due
abbrev pub step_refusal : Reader → ℕ → Part → Bool → Bool → List ℕ → ℕ → Option Refusal
step_refusal reader channel part tail error content room =
    cond error (Some Marked)
    (cond (channel == channel_number reader.channel)
    (due_refusal reader.message part reader.channel tail content room)
    (Some OutOfStep))

abbrev pub shaped : Handed → Option Refusal
shaped p = shape_refusal p.channel p.kind (length p.content)

abbrev pub stepped : Reader → Handed → ℕ → Option Refusal
stepped reader p room = step_refusal reader p.channel (part_in p) p.tail p.error p.content room

-- what is refused where a reader is handed a micropacket, and room for a payload
unfoldable pub read_refusal : Reader → Handed → ℕ → Option Refusal
read_refusal reader p room = first_of (shaped p) (stepped reader p room)

-- the answer
unfoldable pub read_answer : Reader → Handed → Read
read_answer reader p = due_answer reader.message (part_in p) p.content

-- the reader afterwards: what is no micropacket leaves its Message, and a micropacket that is refused drops it
abbrev pub after : Option Refusal → Option Refusal → Reader → Option Underway → Reader
after None None reader message = with_message reader message
after None (Some e) reader message = with_message reader None
after (Some e) later reader message = reader

unfoldable pub reader_after : Reader → Handed → ℕ → Reader
reader_after reader p room = after (shaped p) (stepped reader p room) reader (due_message reader.message (part_in p) p.content)

-- the buffer afterwards
unfoldable pub buffer_after : Reader → Handed → List ℕ → List ℕ
buffer_after reader p buffer =
    unless (read_refusal reader p (length buffer)) (due_buffer reader.message (part_in p) p.content buffer) buffer

-- what an answer says of the buffer lies within it
abbrev pub LiesWithin : ℕ → Read → Type 0
LiesWithin room (reads.Begins h) = h.size ≤ room
LiesWithin room (reads.Piece at count) = at + count ≤ room
LiesWithin room (reads.Complete h) = h.size ≤ room
LiesWithin room reads.Admin = Unit {0}

abbrev pub Within : ℕ → Result Read Refusal → Type 0
Within room (Ok r) = LiesWithin room r
Within room (Err e) = Unit {0}
