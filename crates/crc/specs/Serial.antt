-- A check of 16 bits, one bit at a time: the least significant bit of each byte comes first, and the register shifts right.
use Rattle.std.specs.Prelude.{◌≡◌, ℕ, zero, suc, ◌/◌, ◌%◌, ◌<◌, Bool, cond, not, List, [], ◌∷◌, length, ◌==◌, bit_xor, slice_index}
use Rattle.std.specs.Bool.{beq}

-- whether a number is odd
abbrev pub odd : ℕ → Bool
odd n = n % 2 == 1

-- whether two bits differ
abbrev pub differs : Bool → Bool → Bool
differs a b = not (beq a b)

-- the register after one bit: shifted right, with the generator added where the bit and the register's lowest one differ
abbrev pub step : ℕ → ℕ → Bool → ℕ
step g r b = cond (differs (odd r) b) (bit_xor (r / 2) g) (r / 2)

-- the register after a list of bits
abbrev pub feed : ℕ → ℕ → List Bool → ℕ
feed g r [] = r
feed g r (b ∷ bs) = feed g (step g r b) bs

-- the lowest n bits of a number, the least significant first
abbrev pub bits : ℕ → ℕ → List Bool
bits zero m = []
bits (suc n) m = odd m ∷ bits n (m / 2)

-- the register after a byte
unfoldable pub byte_in : ℕ → ℕ → ℕ → ℕ
byte_in g r b = feed g r (bits 8 b)

-- the register after bytes
unfoldable pub through : ℕ → ℕ → List ℕ → ℕ
through g r [] = r
through g r (b ∷ bs) = through g (byte_in g r b) bs

-- the register after a received check has been clocked in too: nothing is left of a check that is right
unfoldable pub residue : ℕ → ℕ → ℕ → ℕ
residue g r check = feed g r (bits 16 check)

-- a table of what each byte in the register becomes over eight bits that are 0
pub record Rows (g : ℕ) (xs : List ℕ) : Type 0 where
  pub size : length xs ≡ 256
  pub rule : (k : ℕ) → k < 256 → slice_index xs k ≡ feed g k (bits 8 0)
