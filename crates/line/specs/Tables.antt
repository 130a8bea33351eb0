-- Tables of words: what makes one good, the laws that a good one keeps, and the standard's.
use Rattle.std.specs.Prelude.{◌≡◌, ℕ, ◌+◌, ◌<◌, ◌≤◌, cond, List, [], ◌∷◌, length, ℤ, pos, negsuc, ◌≤ℤ◌, Some, None, Ok, Err, Option, Result, ◌==◌, count_ones, slice_index_or}
use Rattle.frame.specs.declared.refusal.Refusal.{Refusal}
use Rattle.line.specs.Code.{coded, decoded}

abbrev pub first : List (ℕ × ℕ) → ℕ → ℕ
first rows code = (slice_index_or rows code (0, 0)).0

abbrev pub second : List (ℕ × ℕ) → ℕ → ℕ
second rows code = (slice_index_or rows code (0, 0)).1

-- first words all different, each with three ones or more, and each second word its row's first complemented
pub record Good (rows : List (ℕ × ℕ)) : Type 0 where
  pub size : length rows ≡ 16
  pub apart : (j k : ℕ) → j < 16 → k < 16 → first rows j ≡ first rows k → j ≡ k
  pub many : (k : ℕ) → k < 16 → 3 ≤ count_ones (first rows k)
  pub complement : (k : ℕ) → k < 16 → first rows k + second rows k ≡ 31

-- the code in whose row a word stands, with the rows counted from k
unfoldable pub found_from : ℕ → List (ℕ × ℕ) → ℕ → Option ℕ
found_from k [] word = None
found_from k (row ∷ rows) word =
    cond (word == row.0) (Some k) (cond (word == row.1) (Some k) (found_from (k + 1) rows word))

abbrev pub look_up : List (ℕ × ℕ) → ℕ → Option ℕ
look_up rows word = found_from 0 rows word

-- a coded group can be looked up
abbrev pub Known : List (ℕ × ℕ) → ℕ → Result (ℕ × ℤ) Refusal → Type 0
Known rows code (Ok p) = look_up rows p.0 ≡ Some code
Known rows code (Err e) = Unit {0}

-- the count after a coded group is in range
abbrev pub Stays : Result (ℕ × ℤ) Refusal → Type 0
Stays (Ok p) = (negsuc 4 ≤ℤ p.1) × (p.1 ≤ℤ pos 4)
Stays (Err e) = Unit {0}

unfoldable pub standard_rows : List (ℕ × ℕ)
standard_rows =
    (0b11011, 0b00100) ∷
    (0b11010, 0b00101) ∷
    (0b11001, 0b00110) ∷
    (0b00111, 0b11000) ∷
    (0b10011, 0b01100) ∷
    (0b01101, 0b10010) ∷
    (0b01110, 0b10001) ∷
    (0b01111, 0b10000) ∷
    (0b01011, 0b10100) ∷
    (0b10101, 0b01010) ∷
    (0b10110, 0b01001) ∷
    (0b10111, 0b01000) ∷
    (0b11100, 0b00011) ∷
    (0b11101, 0b00010) ∷
    (0b11110, 0b00001) ∷
    (0b11111, 0b00000) ∷ []

-- in the standard's table the middle bit tells what a look_up would
abbrev pub ToldByT : List (ℕ × ℕ) → Type 0
ToldByT rows = (word : ℕ) → word < 32 → look_up rows word ≡ Some (decoded word)

-- code 0001 at +1, and 1111 at -1 and at 0
abbrev pub Figures : Type 0
Figures =
    (coded standard_rows 0b0001 (pos 1) ≡ Ok (0b00101, pos 0))
    × (coded standard_rows 0b1111 (negsuc 0) ≡ Ok (0b11111, pos 4))
    × (coded standard_rows 0b1111 (pos 0) ≡ Ok (0b00000, negsuc 4))
