-- Where everything stands in the 40 bytes of a frame.
use Rattle.std.specs.Prelude.{◌≡◌, ℕ, ◌+◌, ◌*◌, ◌/◌, ◌%◌, ◌^◌, ◌<◌, true, false, cond, List, [], ◌∷◌, ◌++◌, length, take, ◌==◌, slice_index}
use Rattle.crc.specs.Laws.{Bytes}
use Rattle.frame.specs.declared.fields.Fields.{Fields}
use Rattle.frame.specs.declared.channel.Channel.TheVariants.{Vc0, Vc2}
use Rattle.frame.specs.declared.kind.Kind.TheVariants.{CreditOnly}
use Rattle.frame.specs.Naming.{type_of, kind_at, channel_number, channel_at}

-- byte 38: CR in bits 7 to 2, VCR in bits 1 and 0
abbrev pub credit_byte : Fields → ℕ
credit_byte f = f.cr * 4 + channel_number f.vcr

-- byte 39: ERROR in bit 7, TAIL in bit 6, TYPE in bits 5 to 2, VC in bits 1 and 0
abbrev pub control_byte : Fields → ℕ
control_byte f = cond f.error 128 0 + cond f.tail 64 0 + type_of f.kind * 4 + channel_number f.vc

-- bytes 32 to 39: both checks most significant byte first, TSEQ, RSEQ, credit and control
abbrev pub trailer : Fields → List ℕ
trailer f =
    (f.lcrc / 256) ∷ (f.lcrc % 256) ∷ (f.ecrc / 256) ∷ (f.ecrc % 256)
    ∷ f.tseq ∷ f.rseq ∷ credit_byte f ∷ control_byte f ∷ []

-- a frame: 32 data bytes and the trailer
abbrev pub frame_of : Fields → List ℕ → List ℕ
frame_of f content = content ++ trailer f

-- what a frame's last eight bytes say
abbrev pub fields_of : List ℕ → Fields
fields_of xs =
    record {
      vc = channel_at (slice_index xs 39 % 4);
      kind = kind_at (slice_index xs 39 / 4 % 16);
      tail = (slice_index xs 39 / 64 % 2 == 1);
      error = (slice_index xs 39 / 128 == 1);
      vcr = channel_at (slice_index xs 38 % 4);
      cr = slice_index xs 38 / 4;
      rseq = slice_index xs 37;
      tseq = slice_index xs 36;
      ecrc = slice_index xs 34 * 256 + slice_index xs 35;
      lcrc = slice_index xs 32 * 256 + slice_index xs 33;
    }

-- a frame's data bytes
abbrev pub data_of : List ℕ → List ℕ
data_of xs = take 32 xs

-- the numbers of fields fit their places
pub record Fits (f : Fields) : Type 0 where
  pub cr : f.cr < 64
  pub rseq : f.rseq < 256
  pub tseq : f.tseq < 256
  pub ecrc : f.ecrc < 2 ^ 16
  pub lcrc : f.lcrc < 2 ^ 16

-- fields give a frame, and that frame gives those fields and the data
abbrev pub FieldsComeBack : Type 0
FieldsComeBack =
    (f : Fields) (content : List ℕ) → Fits f → length content ≡ 32
    → (fields_of (frame_of f content) ≡ f) × (data_of (frame_of f content) ≡ content)

-- every 40 bytes are the frame of their own fields and data
abbrev pub FramesComeBack : Type 0
FramesComeBack = (xs : List ℕ) → length xs ≡ 40 → Bytes xs → frame_of (fields_of xs) (data_of xs) ≡ xs

-- worked figures: channel 2, Credit-only, TAIL and ERROR 0 make byte 39 x'2A'; channel 0 with both 1 makes x'E8'
abbrev pub ControlFigures : Type 0
ControlFigures =
    (f : Fields) (content : List ℕ) → length content ≡ 32 → f.kind ≡ CreditOnly
    → (f.vc ≡ Vc2 → f.tail ≡ false → f.error ≡ false → slice_index (frame_of f content) 39 ≡ 0x2A)
    × (f.vc ≡ Vc0 → f.tail ≡ true → f.error ≡ true → slice_index (frame_of f content) 39 ≡ 0xE8)
