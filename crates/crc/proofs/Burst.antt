-- Up to 16 bits in a row show, and a residue tells its check: bits are added into the register, and steps are injective.
use Rattle.std.proofs.Common.{◌≡◌, ℕ, ◌^◌, ◌<◌, ◌≤◌, Bool, List, [], ◌∷◌, ◌++◌, sym, refl, ap, ◌∙◌, arith}
use lib.Bits.{bit_xor, xor_assoc, xor_comm, xor_self, xor_zero_r, xor_lt}
use Rattle.crc.specs.Serial.{step, feed, bits, byte_in, through, residue}
use Rattle.crc.specs.Laws.{ShowsAByte, ShowsABurst, ResidueTells, KeepsItsWidth}
use Rattle.crc.proofs.Single.{xor_cancel, step_lt, feed_lt, feed_inj}
use Rattle.crc.proofs.Byte.{absorbed}

module _ (g : ℕ) (term : 2 ^ 15 ≤ g) (fits : g < 2 ^ 16) where
  -- what n ≤ 16 bits add to the register is seen after them
  seen :
      (n r b c : ℕ) → n ≤ 16 → r < 2 ^ 16 → b < 2 ^ n → c < 2 ^ n → b < 2 ^ 16 → c < 2 ^ 16
      → feed g r (bits n b) ≡ feed g r (bits n c) → b ≡ c
  seen n r b c le hr hb hc hb' hc' e =
      let x : feed g (bit_xor r b) (bits n 0) ≡ feed g (bit_xor r c) (bits n 0) =
      sym (absorbed g n r b hb) ∙ e ∙ absorbed g n r c hc in
      let y : bit_xor r b ≡ bit_xor r c =
      feed_inj g term fits (bits n 0) (bit_xor r b) (bit_xor r c) (xor_lt 16 r b hr hb') (xor_lt 16 r c hr hc') x in
      xor_cancel b c r (xor_comm b r ∙ y ∙ xor_comm r c)

  byte_lt : (r b : ℕ) → r < 2 ^ 16 → byte_in g r b < 2 ^ 16
  unfolding byte_in
  byte_lt r b h = feed_lt g term fits (bits 8 b) r h

  byte_inj : (r s b : ℕ) → r < 2 ^ 16 → s < 2 ^ 16 → byte_in g r b ≡ byte_in g s b → r ≡ s
  unfolding byte_in
  byte_inj r s b h k e = feed_inj g term fits (bits 8 b) r s h k e

  byte_seen : (r b c : ℕ) → r < 2 ^ 16 → b < 256 → c < 256 → byte_in g r b ≡ byte_in g r c → b ≡ c
  unfolding byte_in
  byte_seen r b c hr hb hc e = seen 8 r b c (omega arith) hr hb hc (omega arith) (omega arith) e

  pub keeps_its_width : KeepsItsWidth g
  unfolding through
  keeps_its_width r [] h = h
  keeps_its_width r (b ∷ bs) h = keeps_its_width (byte_in g r b) bs (byte_lt r b h)

  through_inj : (bs : List ℕ) (r s : ℕ) → r < 2 ^ 16 → s < 2 ^ 16 → through g r bs ≡ through g s bs → r ≡ s
  unfolding through
  through_inj [] r s h k e = e
  through_inj (b ∷ bs) r s h k e =
      byte_inj r s b h k (through_inj bs (byte_in g r b) (byte_in g s b) (byte_lt r b h) (byte_lt s b k) e)

  pub shows_a_byte : ShowsAByte g
  unfolding through
  shows_a_byte r b c [] back hr hb hc e =
      byte_seen r b c hr hb hc (through_inj back (byte_in g r b) (byte_in g r c) (byte_lt r b hr) (byte_lt r c hr) e)
  shows_a_byte r b c (x ∷ front) back hr hb hc e =
      shows_a_byte (byte_in g r x) b c front back (byte_lt r x hr) hb hc e

  feed_append : (p q : List Bool) (r : ℕ) → feed g r (p ++ q) ≡ feed g (feed g r p) q
  feed_append [] q r = refl
  feed_append (b ∷ p) q r = feed_append p q (step g r b)

  pub shows_a_burst : ShowsABurst g
  shows_a_burst r m n [] back hr hm hn e =
      seen 16 r m n (omega arith) hr hm hn hm hn
      (feed_inj g term fits back (feed g r (bits 16 m)) (feed g r (bits 16 n)) (feed_lt g term fits (bits 16 m) r hr) (feed_lt g term fits (bits 16 n) r hr)
      (sym (feed_append (bits 16 m) back r) ∙ e ∙ feed_append (bits 16 n) back r))
  shows_a_burst r m n (x ∷ front) back hr hm hn e =
      shows_a_burst (step g r x) m n front back (step_lt g term fits r x hr) hm hn e

  -- a residue is that of the difference
  residue_of : (r check : ℕ) → check < 2 ^ 16 → residue g r check ≡ residue g (bit_xor r check) 0
  unfolding residue
  residue_of r check h = absorbed g 16 r check h

  residue_inj : (d e : ℕ) → d < 2 ^ 16 → e < 2 ^ 16 → residue g d 0 ≡ residue g e 0 → d ≡ e
  unfolding residue
  residue_inj d e h k p = feed_inj g term fits (bits 16 0) d e h k p

  xor_other : (r check d : ℕ) → bit_xor r check ≡ d → check ≡ bit_xor r d
  xor_other r check d e =
      sym (ap (bit_xor r) (sym e) ∙ sym (xor_assoc r r check) ∙ ap (λ (n : ℕ). bit_xor n check) (xor_self r) ∙ xor_comm 0 check ∙ xor_zero_r check)

  pub residue_tells : ResidueTells g
  residue_tells r check d hr hc hd = (
    λ e. xor_other r check d (residue_inj (bit_xor r check) d (xor_lt 16 r check hr hc) hd (sym (residue_of r check hc) ∙ e)),
    λ e. residue_of r check hc ∙ ap (λ (n : ℕ). residue g n 0) (sym (xor_other r d check (sym e))),
  )
