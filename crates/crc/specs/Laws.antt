-- What a check of this kind finds out, for each generator g of 16 bits whose constant term is 1.
use Rattle.std.specs.Prelude.{◌≡◌, ℕ, ◌*◌, ◌/◌, ◌%◌, ◌^◌, ◌<◌, Bool, not, List, ◌∷◌, ◌++◌, length, ◌≢◌, bit_xor, slice_index, slice_set}
use Rattle.crc.specs.Serial.{feed, bits, through, residue}

-- two lists of bits are of one length and differ in one place
pub record Apart (ds bs : List Bool) : Type 0 where
  pub front : List Bool
  pub bit : Bool
  pub back : List Bool
  pub one : ds ≡ front ++ bit ∷ back
  pub other : bs ≡ front ++ not bit ∷ back

-- a single wrong bit, among those covered or in the check behind them, gives another register
abbrev pub ShowsABit : ℕ → Type 0
ShowsABit g = (r : ℕ) (ds bs : List Bool) → r < 2 ^ 16 → Apart ds bs → feed g r ds ≢ feed g r bs

-- every number of a list is a byte
abbrev pub Bytes : List ℕ → Type 0
Bytes xs = (k : ℕ) → slice_index xs k < 256

-- bytes with one bit turned over: bit n mod 8 of byte n div 8
abbrev pub flipped : List ℕ → ℕ → List ℕ
flipped xs n = slice_set xs (n / 8) (bit_xor (slice_index xs (n / 8)) (2 ^ (n % 8)))

-- where bytes and their check leave nothing over, a single bit of the bytes turned over leaves something,
-- and so does a single bit of the check
abbrev pub OneBitShows : ℕ → Type 0
OneBitShows g =
    (r : ℕ) (xs : List ℕ) (check : ℕ) → r < 2 ^ 16 → Bytes xs → check < 2 ^ 16 → residue g (through g r xs) check ≡ 0
    → ((n : ℕ) → n < 8 * length xs → residue g (through g r (flipped xs n)) check ≢ 0)
    × ((n : ℕ) → n < 16 → residue g (through g r xs) (bit_xor check (2 ^ n)) ≢ 0)

-- a single wrong byte gives another register
abbrev pub ShowsAByte : ℕ → Type 0
ShowsAByte g =
    (r b c : ℕ) (front back : List ℕ) → r < 2 ^ 16 → b < 256 → c < 256
    → through g r (front ++ b ∷ back) ≡ through g r (front ++ c ∷ back) → b ≡ c

-- wrong bits that all lie within 16 in a row give another register
abbrev pub ShowsABurst : ℕ → Type 0
ShowsABurst g =
    (r m n : ℕ) (front back : List Bool) → r < 2 ^ 16 → m < 2 ^ 16 → n < 2 ^ 16
    → feed g r (front ++ (bits 16 m ++ back)) ≡ feed g r (front ++ (bits 16 n ++ back)) → m ≡ n

-- what is left over says exactly by which bits the received check differs from the register: d is the difference
-- where the residue is that of d by itself, and only there
abbrev pub ResidueTells : ℕ → Type 0
ResidueTells g =
    (r check d : ℕ) → r < 2 ^ 16 → check < 2 ^ 16 → d < 2 ^ 16
    → (residue g r check ≡ residue g d 0 → check ≡ bit_xor r d) × (check ≡ bit_xor r d → residue g r check ≡ residue g d 0)

-- the register keeps its 16 bits
abbrev pub KeepsItsWidth : ℕ → Type 0
KeepsItsWidth g = (r : ℕ) (bytes : List ℕ) → r < 2 ^ 16 → through g r bytes < 2 ^ 16
