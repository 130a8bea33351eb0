-- What comes of the micropackets of a Message, handed to a reader in order.
use Rattle.std.specs.Prelude.{◌≡◌, ℕ, ◌<◌, ◌≤◌, cond, List, [], ◌∷◌, ◌++◌, length, take, drop, Some, None, Ok, Err, Result, nat_le}
use Rattle.frame.specs.declared.channel.Channel.{Channel}
use Rattle.frame.specs.declared.refusal.Refusal.{Refusal}
use Rattle.frame.specs.declared.refusal.Refusal.TheVariants.{Marked}
use Rattle.frame.specs.Codec.{or_else}
use Rattle.frame.specs.Naming.{type_of, channel_number}
use Rattle.frame.specs.Refusals.{number_of}
use Rattle.message.specs.declared.heading.Heading.{Heading}
use Rattle.message.specs.declared.reader.Reader.{Reader}
use Rattle.message.specs.declared.reader.Read.{Read}
use Rattle.message.specs.declared.reader.Read.TheVariants.{Begins, Piece, Complete, Admin}
use Rattle.message.specs.Making.{Message, Micropacket, Loadable, micropackets_of, cut_off}
use Rattle.message.specs.Reading.{Handed, fresh, with_message, read_refusal, read_answer, reader_after, buffer_after}

-- a micropacket of a channel, as it is handed in
abbrev pub handed_on : Channel → Micropacket → Handed
handed_on c p = record { channel = channel_number c; kind = type_of p.kind; tail = p.tail; error = p.error; content = p.content }

-- what a call of `read` answers, and what it leaves, where it is handed a micropacket of a channel
abbrev pub answer : Reader → Channel → List ℕ → Micropacket → Result Read Refusal
answer reader c buffer p = or_else (read_refusal reader (handed_on c p) (length buffer)) (read_answer reader (handed_on c p))

abbrev pub next_reader : Reader → Channel → List ℕ → Micropacket → Reader
next_reader reader c buffer p = reader_after reader (handed_on c p) (length buffer)

abbrev pub next_bytes : Reader → Channel → List ℕ → Micropacket → List ℕ
next_bytes reader c buffer p = buffer_after reader (handed_on c p) buffer

-- the same of micropackets handed in one after the other
abbrev pub answers : Reader → Channel → List ℕ → List Micropacket → List (Result Read Refusal)
answers reader c buffer [] = []
answers reader c buffer (p ∷ ps) = answer reader c buffer p ∷ answers (next_reader reader c buffer p) c (next_bytes reader c buffer p) ps

abbrev pub last_reader : Reader → Channel → List ℕ → List Micropacket → Reader
last_reader reader c buffer [] = reader
last_reader reader c buffer (p ∷ ps) = last_reader (next_reader reader c buffer p) c (next_bytes reader c buffer p) ps

abbrev pub last_bytes : Reader → Channel → List ℕ → List Micropacket → List ℕ
last_bytes reader c buffer [] = buffer
last_bytes reader c buffer (p ∷ ps) = last_bytes (next_reader reader c buffer p) c (next_bytes reader c buffer p) ps

-- an answer that says that more of a Message is to come
abbrev pub More : Result Read Refusal → Type 0
More (Ok (Begins h)) = Unit {0}
More (Ok (Piece at count)) = Unit {0}
More (Ok (Complete h)) = ⊥
More (Ok Admin) = ⊥
More (Err e) = ⊥

-- an answer comes last, and each before it says that more is to come
abbrev pub EndsIn : Result Read Refusal → List (Result Read Refusal) → Type 0
EndsIn r [] = ⊥
EndsIn r (a ∷ []) = a ≡ r
EndsIn r (a ∷ b ∷ rest) = More a × EndsIn r (b ∷ rest)

-- what the Header of a Message says
abbrev pub heading_of : Message → Heading
heading_of m =
    record {
      destination = m.destination;
      source = m.source;
      ether_type = m.ether_type;
      size = length m.payload;
    }

-- A Message that is read into a buffer that fits: the last answer is that it is complete, with its addresses, its
-- EtherType and its length, and no other is; the payload stands whole in the buffer's first bytes, the rest is as it
-- was; and the reader is as new.
pub record ComesWhole (c : Channel) (m : Message) (buffer : List ℕ) : Type 0 where
  pub complete : EndsIn (Ok (Complete (heading_of m))) (answers (fresh c) c buffer (micropackets_of m))
  pub payload : last_bytes (fresh c) c buffer (micropackets_of m) ≡ m.payload ++ drop (length m.payload) buffer
  pub reader : last_reader (fresh c) c buffer (micropackets_of m) ≡ fresh c

abbrev pub MessagesComeWhole : Type 0
MessagesComeWhole =
    (c : Channel) (m : Message) (buffer : List ℕ) → Loadable c m → length m.payload ≤ length buffer → ComesWhole c m buffer

-- A Message that is cut after k of its micropackets, before it is complete: the last answer is Marked, no other is a
-- refusal or says that it is complete; the buffer behind the place of the payload is as it was; the reader is as new.
abbrev pub begun_and_cut : ℕ → Message → List Micropacket
begun_and_cut k m = take k (micropackets_of m) ++ cut_off ∷ []

pub record CutShort (c : Channel) (m : Message) (buffer : List ℕ) (k : ℕ) : Type 0 where
  pub marked : EndsIn (Err Marked) (answers (fresh c) c buffer (begun_and_cut k m))
  pub rest : drop (length m.payload) (last_bytes (fresh c) c buffer (begun_and_cut k m)) ≡ drop (length m.payload) buffer
  pub reader : last_reader (fresh c) c buffer (begun_and_cut k m) ≡ fresh c

abbrev pub CutsAreMarked : Type 0
CutsAreMarked =
    (c : Channel) (m : Message) (buffer : List ℕ) (k : ℕ) → Loadable c m → length m.payload ≤ length buffer
    → k < length (micropackets_of m) → CutShort c m buffer k

-- refusals 12 to 15 drop the reader's Message, the others leave it
abbrev pub RefusalsDrop : Type 0
RefusalsDrop =
    (s : Reader) (p : Handed) (room : ℕ) (e : Refusal)
    → read_refusal s p room ≡ Some e → reader_after s p room ≡ cond (nat_le 12 (number_of e)) (with_message s None) s
