-- Bytes as pairs of hexadecimal digits, and back.
use Rattle.std.specs.Prelude.{◌≡◌, ℕ, ◌+◌, ◌-◌, ◌*◌, ◌/◌, ◌%◌, ◌<◌, Bool, cond, ◌&&◌, List, [], ◌∷◌, length, Some, None, codes, Option, ◌==◌, nat_le, slice_index}
use Rattle.std.specs.List.{flat_map, AllByRecursion}

-- the value of a digit, of either case
abbrev pub nibble_of : ℕ → Option ℕ
nibble_of c = cond (nat_le 48 c && nat_le c 57) (Some (c - 48)) (cond (nat_le 65 c && nat_le c 70) (Some (c - 55)) (cond (nat_le 97 c && nat_le c 102) (Some (c - 87)) None))

-- the number that two digits of a base write, where both are known
abbrev pub both : ℕ → Option ℕ → Option ℕ → Option ℕ
both base None low = None
both base (Some h) None = None
both base (Some h) (Some l) = Some (h * base + l)

abbrev pub byte_of : ℕ → ℕ → Option ℕ
byte_of high low = both 16 (nibble_of high) (nibble_of low)

abbrev pub in_front : Option ℕ → Option (List ℕ) → Option (List ℕ)
in_front None bs = None
in_front (Some b) None = None
in_front (Some b) (Some bs) = Some (b ∷ bs)

-- the bytes that pairs of digits write; none at another byte, or where a digit is left over
unfoldable pub pairs_of : List ℕ → Option (List ℕ)
pairs_of [] = Some []
pairs_of (h ∷ []) = None
pairs_of (h ∷ l ∷ rest) = in_front (byte_of h l) (pairs_of rest)

abbrev pub is_dash : List ℕ → Bool
is_dash word = length word == 1 && slice_index word 0 == 45

-- a dash stands for no bytes, and an empty word for nothing at all
abbrev pub bytes_of : List ℕ → Option (List ℕ)
bytes_of word = cond (length word == 0) None (cond (is_dash word) (Some []) (pairs_of word))

-- just four digits
abbrev pub hex4_of : List ℕ → Option ℕ
hex4_of word = cond (length word == 4) (both 256 (byte_of (slice_index word 0) (slice_index word 1)) (byte_of (slice_index word 2) (slice_index word 3))) None

-- the digits below 16, in lower and in upper case
abbrev pub lower : ℕ → ℕ
lower d = slice_index (codes "0123456789abcdef") d

abbrev pub upper : ℕ → ℕ
upper d = slice_index (codes "0123456789ABCDEF") d

-- a byte in two digits
abbrev pub pair_of : ℕ → List ℕ
pair_of b = lower (b / 16) ∷ lower (b % 16) ∷ []

abbrev pub shown_pairs : List ℕ → List ℕ
shown_pairs bs = flat_map pair_of bs

-- how bytes are written: in lower case, and a dash where there are none
unfoldable pub hex_of : List ℕ → List ℕ
hex_of [] = 45 ∷ []
hex_of (b ∷ bs) = shown_pairs (b ∷ bs)

-- how a number of 16 bits is written: always by four digits
unfoldable pub shown_hex4 : ℕ → List ℕ
shown_hex4 n = shown_pairs (n / 256 ∷ n % 256 ∷ [])

-- what is written is read back
abbrev pub BytesComeBack : Type 0
BytesComeBack = (bs : List ℕ) → AllByRecursion (λ b. b < 256) bs → bytes_of (hex_of bs) ≡ Some bs

abbrev pub Hex4ComesBack : Type 0
Hex4ComesBack = (n : ℕ) → n < 65536 → hex4_of (shown_hex4 n) ≡ Some n
