-- Groups of four bits go out as words of five, z y T x w, by a table with a row of two words for each code.
use Rattle.std.specs.Prelude.{ℕ, ◌+◌, ◌-◌, ◌*◌, ◌/◌, ◌%◌, Bool, true, false, cond, List, ℤ, pos, negsuc, ◌+ℤ◌, ◌-ℤ◌, Ok, Err, Result, ◌==◌, count_ones, int_lt, nat_lt, slice_index_or}
use Rattle.frame.specs.declared.refusal.Refusal.{Refusal}
use Rattle.frame.specs.declared.refusal.Refusal.TheVariants.{BadSize}

-- the word of a code: the first of its row where the count is below 0, else the second
abbrev pub word_for : List (ℕ × ℕ) → ℕ → ℤ → ℕ
word_for rows code count = cond (int_lt count (pos 0)) (slice_index_or rows code (0, 0)).0 (slice_index_or rows code (0, 0)).1

-- the count moves by the ones of a word less its zeros
abbrev pub count_after : ℤ → ℕ → ℤ
count_after count word = count +ℤ (pos (count_ones word) -ℤ (pos 5 -ℤ pos (count_ones word)))

-- a group at a count: the word and the count after it
abbrev pub group_of : List (ℕ × ℕ) → ℕ → ℤ → ℕ × ℤ
group_of rows code count = (word_for rows code count, count_after count (word_for rows code count))

-- a count between groups
abbrev pub in_range : ℤ → Bool
in_range count = cond (int_lt count (negsuc 4)) false (cond (int_lt (pos 4) count) false true)

abbrev pub coded : List (ℕ × ℕ) → ℕ → ℤ → Result (ℕ × ℤ) Refusal
coded rows code count = cond (nat_lt code 16) (cond (in_range count) (Ok (group_of rows code count)) (Err BadSize)) (Err BadSize)

-- the bits of a word around T
abbrev pub outer : ℕ → ℕ
outer word = word / 8 * 4 + word % 4

-- as they are where T is 1, else complemented
abbrev pub decoded : ℕ → ℕ
decoded word = cond (word / 4 % 2 == 1) (outer word) (15 - outer word)

-- a word of five bits
abbrev pub is_word : ℕ → Bool
is_word word = nat_lt word 32

abbrev pub decoding : ℕ → Result ℕ Refusal
decoding word = cond (is_word word) (Ok (decoded word)) (Err BadSize)
