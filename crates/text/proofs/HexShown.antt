-- Pairs of digits as they are written. Assumes nothing.
use Rattle.std.proofs.Common.{◌≡◌, ℕ, zero, suc, ◌+◌, ◌/◌, ◌%◌, ◌<◌, ◌≤◌, Bool, true, false, ◌&&◌, eqb, List, [], ◌∷◌, ◌++◌, length, get_or, take, map, set, Some, None, codes, IsUtf8, Decides, Option, sym, refl, ap, ◌∙◌, ⊎_elim, arith}
use Rattle.std.proofs.ByRecursion.{IsAscii-from_all, All-get_or}
use Rattle.std.proofs.lemmas.Str.{IsUtf8-from_ascii}
use Rattle.std.proofs.lemmas.List.{take_more, take_more_set, take_all, map_push, get_or_past}
use Rattle.std.specs.List.{flat_map, AllByRecursion}
use Rattle.std.proofs.lemmas.Bool.{eqb-true, eq-eqb, ne_eqb, and_left, cond-false, cases_lt}
use Rattle.std.proofs.lemmas.Bool.Decides.{Decides-below_and}
use Rattle.text.specs.Hex.{nibble_of, both, byte_of, in_front, pairs_of, lower, pair_of, shown_pairs, hex_of, shown_hex4, is_dash, bytes_of, BytesComeBack, Hex4ComesBack}

-- one more byte is spelled
pub spelled_more : (bytes : List ℕ) (text : List (List ℕ)) (i : ℕ) (p : List ℕ) → i < length bytes → i < length text → p ≡ pair_of (get_or bytes i 0) → take i text ≡ map pair_of (take i bytes) → take (i + 1) (set text i p) ≡ map pair_of (take (i + 1) bytes)
spelled_more bytes text i p h l e inv =
    take_more_set text i p l
    ∙ (λ j. inv j ++ e j ∷ [])
    ∙ sym (ap (map pair_of) (take_more bytes i 0 h) ∙ map_push pair_of (take i bytes) (get_or bytes i 0))

pub spelled_all : (bytes : List ℕ) (text : List (List ℕ)) (i : ℕ) → length bytes ≤ i → i ≤ length bytes → take i text ≡ map pair_of (take i bytes) → take (length bytes) text ≡ map pair_of bytes
spelled_all bytes text i h k inv = let e : length bytes ≡ i = omega arith in ap (λ n. take n text) e ∙ inv ∙ ap (map pair_of) (take_all i bytes h)

-- the pairs end to end
pub flat_pairs : (bytes : List ℕ) → flat_map (λ x. x) (map pair_of bytes) ≡ shown_pairs bytes
flat_pairs [] = refl
flat_pairs (b ∷ bs) = ap (λ l. lower (b / 16) ∷ lower (b % 16) ∷ l) (flat_pairs bs)

-- a digit is read back
is : ℕ → Option ℕ → Bool
is d None = false
is d (Some x) = eqb x d

abbrev back_to : ℕ → Bool
unfolding is
back_to zero = true
back_to (suc n) = is n (nibble_of (lower n)) && back_to n

decides_is : (d : ℕ) (o : Option ℕ) → Decides (is d o) (o ≡ Some d)
unfolding is
decides_is d None = (λ e. grind arith, λ e. grind arith)
decides_is d (Some x) = (λ e. ap (λ (n : ℕ). Some n) (eqb-true x d e), λ e. eq-eqb x d (grind arith))

nibble_back : (d : ℕ) → d < 16 → nibble_of (lower d) ≡ Some d
unfolding is
nibble_back = (Decides-below_and (λ k. is k (nibble_of (lower k))) (λ k. nibble_of (lower k) ≡ Some k) back_to (λ k. decides_is k (nibble_of (lower k))) refl (λ _. refl) 16).0 refl

byte_back : (b : ℕ) → b < 256 → byte_of (lower (b / 16)) (lower (b % 16)) ≡ Some b
byte_back b h =
    (λ i. both 16 (nibble_back (b / 16) (omega arith) i) (nibble_back (b % 16) (omega arith) i)) ∙ ap (λ (n : ℕ). Some n) (omega arith)

pairs_back : (bs : List ℕ) → AllByRecursion (λ b. b < 256) bs → pairs_of (shown_pairs bs) ≡ Some bs
unfolding pairs_of
pairs_back [] h = refl
pairs_back (b ∷ bs) h = λ i. in_front (byte_back b h.0 i) (pairs_back bs h.1 i)

pub hex_of_none : (bs : List ℕ) → length bs ≡ 0 → 45 ∷ [] ≡ hex_of bs
unfolding hex_of
hex_of_none [] e = refl
hex_of_none (b ∷ bs) e = absurd (omega arith)

pub hex_of_some : (bs : List ℕ) → (length bs ≡ 0 → ⊥) → shown_pairs bs ≡ hex_of bs
unfolding hex_of
hex_of_some [] e = absurd (e refl)
hex_of_some (b ∷ bs) e = refl

-- two digits and more are neither nothing nor a dash
long : (b : ℕ) (bs : List ℕ) → bytes_of (shown_pairs (b ∷ bs)) ≡ pairs_of (shown_pairs (b ∷ bs))
long b bs =
    cond-false (eqb (length (shown_pairs (b ∷ bs))) 0) _ _ (ne_eqb _ 0 (omega arith))
    ∙ cond-false (is_dash (shown_pairs (b ∷ bs))) _ _ (and_left _ _ (ne_eqb (length (shown_pairs (b ∷ bs))) 1 (omega arith)))

pub bytes_back : BytesComeBack
unfolding hex_of
bytes_back [] h = refl
bytes_back (b ∷ bs) h = long b bs ∙ pairs_back (b ∷ bs) h

pub hex4_back : Hex4ComesBack
unfolding shown_hex4
hex4_back n h =
    (λ i. both 256 (byte_back (n / 256) (omega arith) i) (byte_back (n % 256) (omega arith) i)) ∙ ap (λ (k : ℕ). Some k) (omega arith)

-- also past the table, where `get_or` gives 0
lower_ascii : (d : ℕ) → lower d < 128
lower_ascii d =
    ⊎_elim (λ h. All-get_or (λ c. c < 128) (codes "0123456789abcdef") d 0 h (omega arith))
    (λ h. let past : lower d ≡ 0 = get_or_past (codes "0123456789abcdef") d 0 h in omega arith)
    (cases_lt d 16)

all_ascii : (bs : List ℕ) → AllByRecursion (λ c. c < 128) (shown_pairs bs)
all_ascii [] = tt
all_ascii (b ∷ bs) = (lower_ascii (b / 16), (lower_ascii (b % 16), all_ascii bs))

pub shown_utf8 : (bs : List ℕ) → IsUtf8 (shown_pairs bs)
shown_utf8 bs = IsUtf8-from_ascii (shown_pairs bs) (IsAscii-from_all (shown_pairs bs) (all_ascii bs))
