-- What the micropackets of a Message are.
use Rattle.std.specs.Prelude.{◌≡◌, ℕ, zero, suc, ◌+◌, ◌-◌, ◌/◌, ◌%◌, ◌^◌, ◌<◌, ◌≤◌, min, Bool, true, false, cond, List, [], ◌∷◌, ◌++◌, length, take, drop, replicate, Some, None, Option, Result, ◌==◌, nat_le, nat_lt}
use Rattle.frame.specs.declared.channel.Channel.{Channel}
use Rattle.frame.specs.declared.channel.Channel.TheVariants.{Vc0, Vc1, Vc2, Vc3}
use Rattle.frame.specs.declared.kind.Kind.{Kind}
use Rattle.frame.specs.declared.kind.Kind.TheVariants.{Data, Header}
use Rattle.frame.specs.declared.refusal.Refusal.{Refusal}
use Rattle.frame.specs.declared.refusal.Refusal.TheVariants.{BadSize}
use Rattle.frame.specs.Codec.{or_else}
use Rattle.message.specs.declared.opening.Opening.{Opening}

-- the longest payload of a Message on each channel
abbrev pub longest_payload : Channel → ℕ
longest_payload Vc0 = 2184
longest_payload Vc1 = 131208
longest_payload Vc2 = 131208
longest_payload Vc3 = 4294967287

-- the fixed LLC/SNAP string
abbrev pub snap : List ℕ
snap = 0xAA ∷ 0xAA ∷ 0x03 ∷ 0x00 ∷ 0x00 ∷ 0x00 ∷ []

-- numbers as bytes, most significant first
abbrev pub two_bytes : ℕ → List ℕ
two_bytes n = (n / 256 % 256) ∷ (n % 256) ∷ []

abbrev pub four_bytes : ℕ → List ℕ
four_bytes n = (n / 16777216 % 256) ∷ (n / 65536 % 256) ∷ (n / 256 % 256) ∷ (n % 256) ∷ []

-- bytes with zeros behind them, up to n
unfoldable pub padded : ℕ → List ℕ → List ℕ
padded n xs = xs ++ replicate (n - length xs) 0

-- M_len of a payload of so many bytes: LLC/SNAP and EtherType count too
abbrev pub m_len : ℕ → ℕ
m_len total = total + 8

-- a Header's data: destination, source, M_len, LLC/SNAP, EtherType and the first bytes of the payload
unfoldable pub header_bytes : List ℕ → List ℕ → ℕ → ℕ → List ℕ → List ℕ
header_bytes destination source ether_type total first =
    destination ++ (source ++ (four_bytes (m_len total) ++ (snap ++ (two_bytes ether_type ++ padded 8 first))))

-- a Data's data: the next bytes of the payload
abbrev pub piece_bytes : List ℕ → List ℕ
piece_bytes bytes = padded 32 bytes

-- what is refused where a Header is made: an address that is not 6 bytes, a payload that M_len cannot count, a first
-- piece that is not the first 8 bytes of the payload, or all of it where it is shorter
abbrev pub header_refusal : ℕ → ℕ → ℕ → ℕ → Option Refusal
header_refusal destination source total first =
    cond (destination == 6)
    (cond (source == 6) (cond (nat_lt 4294967287 total) (Some BadSize) (cond (first == min total 8) None (Some BadSize))) (Some BadSize))
    (Some BadSize)

-- the answer where the Header of an opening is asked for
abbrev pub header_made : Opening → Result (List ℕ) Refusal
header_made o =
    or_else (header_refusal (length o.destination.now) (length o.source.now) o.total (length o.first.now))
    (header_bytes o.destination.now o.source.now o.ether_type o.total o.first.now)

-- what is refused where a Data is made: a piece that is not the next 32 bytes of the payload, or all that is left
abbrev pub piece_refusal : ℕ → ℕ → Option Refusal
piece_refusal left size = cond (size == min left 32) None (Some BadSize)

-- a Message: two addresses of 6 bytes, an EtherType and a payload
pub record Message : Type 0 where
  pub destination : List ℕ
  pub source : List ℕ
  pub ether_type : ℕ
  pub payload : List ℕ

-- what a micropacket of a Message says: its TYPE, TAIL, ERROR and its 32 data bytes
pub record Micropacket : Type 0 where
  pub kind : Kind
  pub tail : Bool
  pub error : Bool
  pub content : List ℕ

-- the Header carries the first 8 bytes of the payload, and TAIL where that is all
abbrev pub header_of : Message → Micropacket
header_of m =
    record {
      kind = Header;
      tail = nat_le (length m.payload) 8;
      error = false;
      content = header_bytes m.destination m.source m.ether_type (length m.payload) (take 8 m.payload);
    }

-- a Data carries the first 32 of the bytes that are left, and TAIL where those are all
abbrev pub data_of : List ℕ → Micropacket
data_of left = record { kind = Data; tail = nat_le (length left) 32; error = false; content = piece_bytes (take 32 left) }

-- so many Data, one after the other
abbrev pub datas_of : ℕ → List ℕ → List Micropacket
datas_of zero left = []
datas_of (suc n) left = data_of left ∷ datas_of n (drop 32 left)

-- what ends a Message that is cut: a Data of zeros with ERROR and TAIL
abbrev pub cut_off : Micropacket
cut_off = record { kind = Data; tail = true; error = true; content = replicate 32 0 }

-- how many Data a payload of so many bytes takes
abbrev pub data_count : ℕ → ℕ
data_count total = (total - 8 + 31) / 32

-- the micropackets of a whole Message, in order
abbrev pub micropackets_of : Message → List Micropacket
micropackets_of m = header_of m ∷ datas_of (data_count (length m.payload)) (drop 8 m.payload)

-- a Message that can be loaded on a channel
pub record Loadable (c : Channel) (m : Message) : Type 0 where
  pub destination : length m.destination ≡ 6
  pub source : length m.source ≡ 6
  pub ether_type : m.ether_type < 2 ^ 16
  pub payload : length m.payload ≤ longest_payload c

-- of a Message that can be loaded, neither the Header nor a Data is refused
pub record Made (m : Message) : Type 0 where
  pub header : header_refusal (length m.destination) (length m.source) (length m.payload) (length (take 8 m.payload)) ≡ None
  pub pieces : (left : List ℕ) → piece_refusal (length left) (length (take 32 left)) ≡ None

abbrev pub LoadableIsMade : Type 0
LoadableIsMade = (c : Channel) (m : Message) → Loadable c m → Made m

-- worked figures: a payload of 8 bytes gives M_len 16 and no Data, one of 9 gives 17 and one
pub record Figures (total m_length datas : ℕ) : Type 0 where
  pub counted : (m : Message) → length m.destination ≡ 6 → length m.source ≡ 6 → length m.payload ≡ total
      → take 4 (drop 12 (header_of m).content) ≡ four_bytes m_length
  pub followed : (m : Message) → length m.payload ≡ total → length (micropackets_of m) ≡ 1 + datas

abbrev pub LengthFigures : Type 0
LengthFigures = Figures 8 16 0 × Figures 9 17 1
