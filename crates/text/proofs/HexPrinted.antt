-- What numbers write in hexadecimal. Assumes nothing.
use Rattle.std.proofs.Common.{◌≡◌, ℕ, zero, suc, ◌/◌, ◌%◌, ◌<◌, Bool, true, ◌&&◌, eqb, [], ◌∷◌, refl, ap, ◌∙◌, arith, w16}
use Rattle.std.specs.Int.{to_be_bytes}
use Rattle.std.specs.Fmt.{digits, digit_glyph}
use Rattle.std.proofs.lemmas.Fmt.{hex_one_digit}
use Rattle.std.proofs.lemmas.Bool.{eqb-true, eq-eqb}
use Rattle.std.proofs.lemmas.Bool.Decides.{Decides-below_and}
use Rattle.text.specs.Hex.{upper, shown_pairs, hex_of, shown_hex4}

-- the digits of the tables are those that std writes
same_to : Bool → (ℕ → ℕ) → ℕ → Bool
same_to capital table zero = true
same_to capital table (suc n) = eqb (digit_glyph capital n) (table n) && same_to capital table n

same_below : (capital : Bool) (table : ℕ → ℕ) → same_to capital table 16 ≡ true → (d : ℕ) → d < 16 → digit_glyph capital d ≡ table d
unfolding same_to
same_below capital table =
    (Decides-below_and (λ k. eqb (digit_glyph capital k) (table k)) (λ k. digit_glyph capital k ≡ table k) (same_to capital table) (λ k. (eqb-true _ _, eq-eqb _ _)) refl (λ _. refl) 16).0

pub upper_digit : (d : ℕ) → d < 16 → digits 16 true d ≡ upper d ∷ []
unfolding same_to
upper_digit d h = hex_one_digit true d h ∙ ap (λ g. g ∷ []) (same_below true upper refl d h)

-- two bytes, the high one first, are the four digits
pub four_digits : (n : ℕ) → n < 65536 → hex_of (to_be_bytes w16 n) ≡ shown_hex4 n
unfolding hex_of shown_hex4
four_digits n h = let e : n / 256 % 256 ≡ n / 256 = omega arith in ap (λ (k : ℕ). shown_pairs (k ∷ n % 256 ∷ [])) e
