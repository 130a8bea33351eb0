-- A single wrong bit is noticed: a step is injective in the register, and its bit shows in the highest place.
use Rattle.std.proofs.Common.{◌≡◌, ℕ, ◌/◌, ◌%◌, ◌^◌, ◌<◌, ◌≤◌, Bool, true, false, cond, not, eqb, List, [], ◌∷◌, ◌++◌, sym, refl, ap, ◌∙◌, arith}
use lib.Bits.{bit_xor, xor_assoc, xor_self, xor_zero_r, xor_lt, xor_shr}
use Rattle.crc.specs.Serial.{odd, differs, step, feed}
use Rattle.crc.specs.Laws.{ShowsABit}

xor_back : (x z : ℕ) → bit_xor (bit_xor x z) z ≡ x
xor_back x z = xor_assoc x z z ∙ ap (bit_xor x) (xor_self z) ∙ xor_zero_r x

pub xor_cancel : (x y z : ℕ) → bit_xor x z ≡ bit_xor y z → x ≡ y
xor_cancel x y z e = sym (xor_back x z) ∙ ap (λ (n : ℕ). bit_xor n z) e ∙ xor_back y z

cancel : (a b c : Bool) → differs a c ≡ differs b c → a ≡ b
cancel true true c e = refl
cancel false false c e = refl
cancel true false true e = sym e
cancel true false false e = e
cancel false true true e = sym e
cancel false true false e = e

sides : (a : Bool) → differs a true ≡ differs a false → true ≡ false
sides true e = sym e
sides false e = e

bit_of : (m n : ℕ) → m < 2 → n < 2 → eqb m 1 ≡ eqb n 1 → m ≡ n
bit_of m n a b e = grind arith

module _ (g : ℕ) (term : 2 ^ 15 ≤ g) (fits : g < 2 ^ 16) where
  mix : Bool → ℕ → ℕ
  mix d x = cond d (bit_xor x g) x

  mix_top : (d : Bool) (x : ℕ) → x < 2 ^ 15 → mix d x / 2 ^ 15 ≡ cond d 1 0
  unfolding mix
  mix_top true x h =
      let a : x / 2 ^ 15 ≡ 0 = omega arith in
      let b : g / 2 ^ 15 ≡ 1 = omega arith in
      xor_shr x g 15 ∙ rw (a, b)
  mix_top false x h = omega arith

  mix_lt : (d : Bool) (x : ℕ) → x < 2 ^ 15 → mix d x < 2 ^ 16
  unfolding mix
  mix_lt true x h = xor_lt 16 x g (omega arith) fits
  mix_lt false x h = omega arith

  mix_inj : (d e : Bool) (x y : ℕ) → x < 2 ^ 15 → y < 2 ^ 15 → mix d x ≡ mix e y → (d ≡ e) × (x ≡ y)
  unfolding mix
  mix_inj true true x y h k p = (refl, xor_cancel x y g p)
  mix_inj false false x y h k p = (refl, p)
  mix_inj true false x y h k p =
      let q = ap (λ (n : ℕ). n / 2 ^ 15) p in absurd (omega (arith, q, mix_top true x h, mix_top false y k))
  mix_inj false true x y h k p =
      let q = ap (λ (n : ℕ). n / 2 ^ 15) p in absurd (omega (arith, q, mix_top false x h, mix_top true y k))

  pub step_lt : (r : ℕ) (b : Bool) → r < 2 ^ 16 → step g r b < 2 ^ 16
  unfolding mix
  step_lt r b h = mix_lt (differs (odd r) b) (r / 2) (omega arith)

  pub step_inj : (r s : ℕ) (b : Bool) → r < 2 ^ 16 → s < 2 ^ 16 → step g r b ≡ step g s b → r ≡ s
  unfolding mix
  step_inj r s b h k p =
      let q = mix_inj (differs (odd r) b) (differs (odd s) b) (r / 2) (s / 2) (omega arith) (omega arith) p in
      let e : r % 2 ≡ s % 2 = bit_of (r % 2) (s % 2) (omega arith) (omega arith) (cancel (odd r) (odd s) b q.0) in
      omega (arith, q.1)

  pub step_tells : (r : ℕ) → r < 2 ^ 16 → step g r true ≡ step g r false → true ≡ false
  unfolding mix
  step_tells r h p =
      sides (odd r) (mix_inj (differs (odd r) true) (differs (odd r) false) (r / 2) (r / 2) (omega arith) (omega arith) p).0

  pub feed_lt : (bs : List Bool) (r : ℕ) → r < 2 ^ 16 → feed g r bs < 2 ^ 16
  feed_lt [] r h = h
  feed_lt (b ∷ bs) r h = feed_lt bs (step g r b) (step_lt r b h)

  pub feed_inj : (bs : List Bool) (r s : ℕ) → r < 2 ^ 16 → s < 2 ^ 16 → feed g r bs ≡ feed g s bs → r ≡ s
  feed_inj [] r s h k e = e
  feed_inj (b ∷ bs) r s h k e =
      step_inj r s b h k (feed_inj bs (step g r b) (step g s b) (step_lt r b h) (step_lt s b k) e)

  tells : (b : Bool) (r : ℕ) → r < 2 ^ 16 → step g r b ≡ step g r (not b) → true ≡ false
  tells true r h e = step_tells r h e
  tells false r h e = step_tells r h (sym e)

  after : (p q : List Bool) (b : Bool) (r : ℕ) → r < 2 ^ 16 → feed g r (p ++ b ∷ q) ≡ feed g r (p ++ not b ∷ q) → true ≡ false
  after [] q b r h e = tells b r h (feed_inj q (step g r b) (step g r (not b)) (step_lt r b h) (step_lt r (not b) h) e)
  after (x ∷ p) q b r h e = after p q b (step g r x) (step_lt r x h) e

  pub shows_a_bit : ShowsABit g
  shows_a_bit r ds bs h d e =
      let t : true ≡ false =
      after d.front d.back d.bit r h (ap (feed g r) (sym d.one) ∙ e ∙ ap (feed g r) d.other) in
      let z : ◌≡◌ {A = ℕ} 0 1 = cc in omega arith
