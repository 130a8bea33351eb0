-- What the two checks of a frame cover, and what they find out.
use Rattle.std.specs.Prelude.{◌≡◌, ℕ, ◌+◌, ◌*◌, ◌/◌, ◌%◌, ◌<◌, List, [], ◌∷◌, map, length, Some, None, Option, ◌≢◌, bit_xor, slice_index, slice_set}
use Rattle.crc.specs.Laws.{Bytes, flipped}
use Rattle.crc.specs.Serial.{through, residue}
use Rattle.frame.specs.declared.refusal.Refusal.{Refusal}
use Rattle.frame.specs.Codec.{size_refusal}

-- the bytes of a frame in the order of transmission, without the link check: eight data bytes, then two bytes of
-- control bits from c00 up, and so on
unfoldable pub order : List ℕ
order =
    0 ∷ 1 ∷ 2 ∷ 3 ∷ 4 ∷ 5 ∷ 6 ∷ 7 ∷ 39 ∷ 38 ∷
    8 ∷ 9 ∷ 10 ∷ 11 ∷ 12 ∷ 13 ∷ 14 ∷ 15 ∷ 37 ∷ 36 ∷
    16 ∷ 17 ∷ 18 ∷ 19 ∷ 20 ∷ 21 ∷ 22 ∷ 23 ∷ 35 ∷ 34 ∷
    24 ∷ 25 ∷ 26 ∷ 27 ∷ 28 ∷ 29 ∷ 30 ∷ 31 ∷ []

-- the bytes that the link check covers
unfoldable pub covered : List ℕ → List ℕ
covered xs = map (λ i. slice_index xs i) order

-- the link check that a frame should have
unfoldable pub link_check : List ℕ → ℕ
link_check xs = through 0x8408 0xFFFF (covered xs)

-- the link check that it has, c63 to c48
abbrev pub received : List ℕ → ℕ
received xs = slice_index xs 32 * 256 + slice_index xs 33

-- the syndrome: what is left over of the two
unfoldable pub syndrome_of : List ℕ → ℕ
syndrome_of xs = residue 0x8408 (link_check xs) (received xs)

-- a frame with the link check that it should have
unfoldable pub sealed : List ℕ → List ℕ
sealed xs = slice_set (slice_set xs 32 (link_check xs / 256)) 33 (link_check xs % 256)

-- the frame's bytes after a call that seals it
abbrev pub sealed_or : Option Refusal → List ℕ → List ℕ
sealed_or None xs = sealed xs
sealed_or (Some e) xs = xs

-- the syndrome is 0 exactly where the received check is the right one
abbrev pub GoodIsZero : Type 0
GoodIsZero =
    (xs : List ℕ) → length xs ≡ 40 → Bytes xs
    → (syndrome_of xs ≡ 0 → received xs ≡ link_check xs) × (received xs ≡ link_check xs → syndrome_of xs ≡ 0)

-- it is x'06A9' exactly where the received check differs from the right one by the stomp code x'874D'
abbrev pub StompedIs06A9 : Type 0
StompedIs06A9 =
    (xs : List ℕ) → length xs ≡ 40 → Bytes xs
    → (syndrome_of xs ≡ 0x06A9 → received xs ≡ bit_xor (link_check xs) 0x874D)
    × (received xs ≡ bit_xor (link_check xs) 0x874D → syndrome_of xs ≡ 0x06A9)

-- a good frame with any single one of its 320 bits turned over has a syndrome other than 0
abbrev pub FrameBitShows : Type 0
FrameBitShows =
    (xs : List ℕ) (n : ℕ) → length xs ≡ 40 → Bytes xs → n < 320 → syndrome_of xs ≡ 0 → syndrome_of (flipped xs n) ≢ 0

-- a sealed frame is good
abbrev pub SealedIsGood : Type 0
SealedIsGood = (xs : List ℕ) → length xs ≡ 40 → Bytes xs → syndrome_of (sealed xs) ≡ 0

-- what is refused where data bytes are to be checked: any length but 32
abbrev pub data_refusal : ℕ → Option Refusal
data_refusal size = size_refusal 32 size

-- the end-to-end check after the data bytes of one micropacket, from a register given
unfoldable pub end_check : ℕ → List ℕ → ℕ
end_check r content = through 0xD008 r content
