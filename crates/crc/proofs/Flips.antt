-- A single bit turned over leaves something in the register.
use Rattle.std.proofs.Common.{◌≡◌, ℕ, suc, ◌/◌, ◌%◌, ◌^◌, ◌<◌, ◌≤◌, List, ◌∷◌, ◌++◌, length, get_or, take, drop, set, sym, refl, ap, ◌∙◌, arith, pow_pos}
use lib.Bits.{bit_xor, xor_assoc, xor_comm, xor_self, xor_zero_r, xor_lt}
use lib.Seq.{set_split, set-get_or}
use Rattle.std.proofs.lemmas.Nat.{pow_below}
use Rattle.crc.specs.Serial.{through, residue, bits}
use Rattle.crc.specs.Laws.{Bytes, flipped, OneBitShows}
use Rattle.crc.proofs.Single.{feed_inj}
use Rattle.crc.proofs.Burst.{shows_a_byte, keeps_its_width, residue_tells}

-- a bit that is turned over is another
pub turned : (b k : ℕ) → bit_xor b (2 ^ k) ≡ b → ⊥
turned b k e =
    let p = pow_pos k in
    let z : 2 ^ k ≡ 0 =
    sym (xor_comm 0 (2 ^ k) ∙ xor_zero_r (2 ^ k)) ∙ ap (λ (n : ℕ). bit_xor n (2 ^ k)) (sym (xor_self b)) ∙ xor_assoc b b (2 ^ k) ∙ ap (bit_xor b) e ∙ xor_self b in
    omega arith

pub turned_lt : (b k : ℕ) → b < 256 → k < 8 → bit_xor b (2 ^ k) < 256
turned_lt b k h l = xor_lt 8 b (2 ^ k) h (pow_below k 8 l)

module _ (g : ℕ) (term : 2 ^ 15 ≤ g) (fits : g < 2 ^ 16) where
  -- the register after bytes with one of them changed
  pub byte_shows : (r : ℕ) (xs : List ℕ) (i c : ℕ) → r < 2 ^ 16 → Bytes xs → i < length xs → c < 256 → through g r (set xs i c) ≡ through g r xs → c ≡ get_or xs i 0
  byte_shows r xs i c hr bytes h hc e =
      let parts : xs ≡ take i xs ++ get_or xs i 0 ∷ drop (suc i) xs = sym (set-get_or xs i 0) ∙ set_split xs i (get_or xs i 0) h in
      let other = set_split xs i c h in
      shows_a_byte g term fits r c (get_or xs i 0) (take i xs) (drop (suc i) xs) hr hc (bytes i)
      (ap (through g r) (sym other) ∙ e ∙ ap (through g r) parts)

  left_inj : (r s check : ℕ) → r < 2 ^ 16 → s < 2 ^ 16 → residue g r check ≡ 0 → residue g s check ≡ 0 → r ≡ s
  unfolding residue
  left_inj r s check hr hs p q = feed_inj g term fits (bits 16 check) r s hr hs (p ∙ sym q)

  nothing : residue g 0 0 ≡ 0
  unfolding residue
  nothing = refl

  pub one_bit_shows : OneBitShows g
  one_bit_shows r xs check hr bytes hc good = (
    λ n h bad.
        let i = n / 8 in
        let c = bit_xor (get_or xs i 0) (2 ^ (n % 8)) in
        let lt : i < length xs = omega arith in
        let same = left_inj (through g r (flipped xs n)) (through g r xs) check
        (keeps_its_width g term fits r (flipped xs n) hr) (keeps_its_width g term fits r xs hr) bad good in
        turned (get_or xs i 0) (n % 8) (byte_shows r xs i c hr bytes lt (turned_lt (get_or xs i 0) (n % 8) (bytes i) (omega arith)) same),
    λ n h bad.
        let s = through g r xs in
        let hs = keeps_its_width g term fits r xs hr in
        let c = bit_xor check (2 ^ n) in
        let one = (residue_tells g term fits s check 0 hs hc (omega arith)).0 (good ∙ sym nothing) in
        let two = (residue_tells g term fits s c 0 hs (xor_lt 16 check (2 ^ n) hc (pow_below n 16 h)) (omega arith)).0 (bad ∙ sym nothing) in
        turned check n (two ∙ sym one),
  )
