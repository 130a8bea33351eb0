-- Eight bits at once: what a byte does to the register, by what the register's lowest byte becomes.
use Rattle.std.proofs.Common.{◌≡◌, ℕ, zero, suc, ◌+◌, ◌*◌, ◌/◌, ◌%◌, ◌^◌, ◌<◌, Bool, true, false, cond, eqb, List, [], ◌∷◌, sym, refl, ap, ◌∙◌, ap₂, pow-suc, arith, pow_pos}
use lib.Bits.{bit_xor, xor_assoc, xor_comm, xor_zero_r, xor_shr, xor_mod, xor_shifted, shifted_half, shifted_even}
use lib.Arith.{mod-mul}
use Rattle.std.proofs.lemmas.Nat.{shr_split}
use Rattle.crc.specs.Serial.{odd, differs, step, feed, bits, byte_in, through, residue}

swap : (x y z : ℕ) → bit_xor (bit_xor x y) z ≡ bit_xor (bit_xor x z) y
swap x y z = xor_assoc x y z ∙ ap (bit_xor x) (xor_comm y z) ∙ sym (xor_assoc x z y)

odd_digit : (m n : ℕ) → m < 2 → n < 2 → eqb (bit_xor m n) 1 ≡ differs (eqb m 1) (eqb n 1)
odd_digit zero zero h k = refl
odd_digit zero (suc zero) h k = refl
odd_digit (suc zero) zero h k = refl
odd_digit (suc zero) (suc zero) h k = refl
odd_digit (suc (suc m)) n h k = absurd (omega arith)
odd_digit zero (suc (suc n)) h k = absurd (omega arith)
odd_digit (suc zero) (suc (suc n)) h k = absurd (omega arith)

odd_xor : (r b : ℕ) → odd (bit_xor r b) ≡ differs (odd r) (odd b)
odd_xor r b = ap (λ (n : ℕ). eqb n 1) (xor_mod r b 1) ∙ odd_digit (r % 2) (b % 2) (omega arith) (omega arith)

by_bit : (g x y : ℕ) (d : Bool) → cond (differs d false) (bit_xor (bit_xor x y) g) (bit_xor x y) ≡ bit_xor (cond d (bit_xor x g) x) y
by_bit g x y true = swap x y g
by_bit g x y false = refl

-- a number that is added to the register before the shift
pub added : (g r b : ℕ) → step g (bit_xor r b) false ≡ bit_xor (step g r (odd b)) (b / 2)
added g r b =
    ap₂ (λ (d : Bool) (n : ℕ). cond (differs d false) (bit_xor n g) n) (odd_xor r b) (xor_shr r b 1)
    ∙ by_bit g (r / 2) (b / 2) (differs (odd r) (odd b))

pub absorbed : (g n r b : ℕ) → b < 2 ^ n → feed g r (bits n b) ≡ feed g (bit_xor r b) (bits n 0)
absorbed g zero r b h =
    let e : b ≡ 0 = omega arith in sym (ap (bit_xor r) e ∙ xor_zero_r r)
absorbed g (suc n) r b h =
    absorbed g n (step g r (odd b)) (b / 2) (omega (arith, pow-suc 2 n))
    ∙ ap (λ (m : ℕ). feed g m (bits n 0)) (sym (added g r b))

high : (g n h l : ℕ) → step g (bit_xor (h * 2 ^ suc n) l) false ≡ bit_xor (h * 2 ^ n) (step g l false)
high g n h l =
    ap (λ (m : ℕ). step g m false) (xor_comm (h * 2 ^ suc n) l)
    ∙ added g l (h * 2 ^ suc n)
    ∙ ap₂ (λ (m k : ℕ). bit_xor (step g l (eqb m 1)) k) (shifted_even h n) (shifted_half h n)
    ∙ xor_comm (step g l false) (h * 2 ^ n)

pub parted : (g n h l : ℕ) → feed g (bit_xor (h * 2 ^ n) l) (bits n 0) ≡ bit_xor h (feed g l (bits n 0))
parted g zero h l = let e : h * 1 ≡ h = omega arith in ap (λ (m : ℕ). bit_xor m l) e
parted g (suc n) h l = ap (λ (m : ℕ). feed g m (bits n 0)) (high g n h l) ∙ parted g n h (step g l false)

pub by_row : (g r b : ℕ) → b < 256 → feed g r (bits 8 b) ≡ bit_xor (r / 256) (feed g (bit_xor r b % 256) (bits 8 0))
by_row g r b h =
    let x = bit_xor r b in
    let z : b / 256 ≡ 0 = omega arith in
    absorbed g 8 r b h
    ∙ ap (λ (m : ℕ). feed g m (bits 8 0)) (sym (xor_shifted (x / 256) 8 (x % 256) (omega arith) ∙ shr_split x 8))
    ∙ parted g 8 (x / 256) (x % 256)
    ∙ ap (λ (m : ℕ). bit_xor m (feed g (x % 256) (bits 8 0))) (xor_shr r b 8 ∙ ap (bit_xor (r / 256)) z ∙ xor_zero_r (r / 256))

-- the same of the register after a byte, by the register's two bytes
pub byte_by_row : (g r b : ℕ) → b < 256 → byte_in g r b ≡ bit_xor (r / 256) (feed g (bit_xor (r % 256) b) (bits 8 0))
unfolding byte_in
byte_by_row g r b h =
    let k : b % 256 ≡ b = omega arith in
    by_row g r b h
    ∙ ap (λ (n : ℕ). bit_xor (r / 256) (feed g n (bits 8 0))) (xor_mod r b 8 ∙ ap (bit_xor (r % 256)) k)

-- the lowest bits of a number are those of its remainder
low_bits : (n m : ℕ) → bits n (m % 2 ^ n) ≡ bits n m
low_bits zero m = refl
low_bits (suc n) m =
    let p : m % 2 ^ suc n ≡ (m / 2 % 2 ^ n) * 2 + m % 2 = ap (λ (k : ℕ). m % k) (pow-suc 2 n) ∙ mod-mul m (pow_pos n) (omega arith) in
    let e : odd (m % 2 ^ suc n) ≡ odd m = ap (λ (k : ℕ). eqb k 1) (omega arith) in
    let f : m % 2 ^ suc n / 2 ≡ m / 2 % 2 ^ n = omega arith in
    ap₂ (λ (a : Bool) (l : ℕ). a ∷ bits n l) e f ∙ ap (λ (l : List Bool). odd m ∷ l) (low_bits n (m / 2))

-- a check of 16 bits goes in as two bytes, the low one first
pub two_bytes : (g r check : ℕ) → byte_in g (byte_in g r (check % 256)) (check / 256) ≡ residue g r check
unfolding byte_in residue
two_bytes g r check =
    let e : check / 256 ≡ check / 2 / 2 / 2 / 2 / 2 / 2 / 2 / 2 = omega arith in
    ap₂ (λ (low : List Bool) (k : ℕ). feed g (feed g r low) (bits 8 k)) (low_bits 8 check) e

-- the same as a run over those two bytes
pub byte_by_byte : (g r check : ℕ) → residue g r check ≡ through g r ((check % 256) ∷ (check / 256 % 256) ∷ [])
unfolding through byte_in
byte_by_byte g r check =
    sym (ap (λ (high : List Bool). feed g (byte_in g r (check % 256)) high) (low_bits 8 (check / 256)) ∙ two_bytes g r check)
