-- The 80 groups of a frame, coded from the counts of all lines, and the frame of 80 groups.
use Rattle.std.specs.Prelude.{◌≡◌, ℕ, zero, suc, ◌+◌, ◌*◌, ◌/◌, ◌%◌, ◌^◌, ◌<◌, Bool, true, false, cond, List, map, length, replicate, ℤ, pos, Ok, Err, Result, ◌==◌, slice_index, slice_index_or, slice_set}
use Rattle.std.specs.List.{range_with_len, list_all}
use Rattle.frame.specs.declared.refusal.Refusal.{Refusal}
use Rattle.frame.specs.declared.refusal.Refusal.TheVariants.{BadSize}
use Rattle.line.specs.declared.width.Width.{Width}
use Rattle.line.specs.declared.width.Width.TheVariants as width
use Rattle.line.specs.declared.counts.Counts.{Counts}
use Rattle.line.specs.declared.counts.Counts.TheVariants.{Wide, Narrow}
use Rattle.line.specs.Code.{group_of, decoded, in_range, is_word}
use Rattle.line.specs.Tables.{standard_rows}
use Rattle.line.specs.Places.{lines, place, standing}

-- the number with n bits, the least significant first
unfoldable pub number : ℕ → (ℕ → ℕ) → ℕ
number zero bit = 0
number (suc n) bit = bit 0 + 2 * number n (λ k. bit (suc k))

-- bit n of a frame
abbrev pub frame_bit : List ℕ → ℕ → ℕ
frame_bit frame n = slice_index frame (n / 8) / 2 ^ (n % 8) % 2

-- the code of group g: the bits of the frame that stand there
abbrev pub code_at : Width → List ℕ → ℕ → ℕ
code_at w frame g = number 4 (λ k. frame_bit frame (standing w (4 * g + k)))

unfoldable pub codes_of : Width → List ℕ → List ℕ
codes_of w frame = map (code_at w frame) (range_with_len 0 80)

-- the counts after the first groups: group g goes out on line g mod lines, and its count alone is replaced
unfoldable pub counts_after : List (ℕ × ℕ) → ℕ → List ℕ → List ℤ → ℕ → List ℤ
counts_after rows lines codes counts zero = counts
counts_after rows lines codes counts (suc g) =
    let so_far = counts_after rows lines codes counts g in
    slice_set so_far (g % lines) (group_of rows (slice_index codes g) (slice_index_or so_far (g % lines) (pos 0))).1

-- the word of group g
abbrev pub word_at : List (ℕ × ℕ) → ℕ → List ℕ → List ℤ → ℕ → ℕ
word_at rows lines codes counts g =
    (group_of rows (slice_index codes g) (slice_index_or (counts_after rows lines codes counts g) (g % lines) (pos 0))).0

unfoldable pub words_of : List (ℕ × ℕ) → ℕ → List ℕ → List ℤ → List ℕ
words_of rows lines codes counts = map (word_at rows lines codes counts) (range_with_len 0 80)

-- the bit of coded groups at a place
abbrev pub group_bit : List ℕ → ℕ → ℕ
group_bit groups p = decoded (slice_index groups (p / 4)) / 2 ^ (p % 4) % 2

-- the frame of coded groups: each bit is the one at its place
unfoldable pub frame_of : Width → List ℕ → List ℕ
frame_of w groups = map (λ b. number 8 (λ j. group_bit groups (place w (8 * b + j)))) (range_with_len 0 40)

abbrev pub counts_of : Counts → List ℤ
counts_of (Wide counts) = counts
counts_of (Narrow counts) = counts

abbrev pub width_of : Counts → Width
width_of (Wide counts) = width.Wide
width_of (Narrow counts) = width.Narrow

-- every line begins at 0
abbrev pub fresh : Width → Counts
fresh width.Wide = Wide (replicate 20 (pos 0))
fresh width.Narrow = Narrow (replicate 10 (pos 0))

abbrev pub with_counts : Counts → List ℤ → Counts
with_counts (Wide counts) after = Wide after
with_counts (Narrow counts) after = Narrow after

-- a frame goes out if the sizes are right and every count is in range
abbrev pub goes : Counts → List ℕ → List ℕ → Bool
goes counts frame groups = cond (length frame == 40) (cond (length groups == 80) (list_all in_range (counts_of counts)) false) false

abbrev pub coded_counts : Counts → List ℕ → List ℤ
coded_counts counts frame =
    counts_after standard_rows (lines (width_of counts)) (codes_of (width_of counts) frame) (counts_of counts) 80

abbrev pub coded_groups : Counts → List ℕ → List ℕ
coded_groups counts frame = words_of standard_rows (lines (width_of counts)) (codes_of (width_of counts) frame) (counts_of counts)

abbrev pub sent : Counts → List ℕ → List ℕ → Result Counts Refusal
sent counts frame groups = cond (goes counts frame groups) (Ok (with_counts counts (coded_counts counts frame))) (Err BadSize)

abbrev pub sent_groups : Counts → List ℕ → List ℕ → List ℕ
sent_groups counts frame groups = cond (goes counts frame groups) (coded_groups counts frame) groups

-- groups come in if the sizes are right and every group has five bits
abbrev pub comes : List ℕ → List ℕ → Bool
comes groups frame = cond (length groups == 80) (cond (length frame == 40) (list_all is_word groups) false) false

abbrev pub received : List ℕ → List ℕ → Result (Unit {0}) Refusal
received groups frame = cond (comes groups frame) (Ok tt) (Err BadSize)

abbrev pub received_frame : Width → List ℕ → List ℕ → List ℕ
received_frame w groups frame = cond (comes groups frame) (frame_of w groups) frame

-- every bit of a frame stands at its place in the groups
abbrev pub Carries : Width → List ℕ → List ℕ → Type 0
Carries w groups frame = (n : ℕ) → n < 320 → group_bit groups (place w n) ≡ frame_bit frame n

-- groups are taken, and give a frame, whatever the 40 bytes hold that it comes into
abbrev pub Gives : Width → List ℕ → List ℕ → Type 0
Gives w groups frame =
    (buffer : List ℕ) → length buffer ≡ 40 → (received groups buffer ≡ Ok tt) × (received_frame w groups buffer ≡ frame)

-- the laws of a frame that has gone out as groups
abbrev pub Carried : Counts → List ℕ → List ℕ → Result Counts Refusal → Type 0
Carried counts frame groups (Ok after) = Carries (width_of counts) groups frame
Carried counts frame groups (Err e) = Unit {0}

abbrev pub GivenBack : Counts → List ℕ → List ℕ → Result Counts Refusal → Type 0
GivenBack counts frame groups (Ok after) = Gives (width_of counts) groups frame
GivenBack counts frame groups (Err e) = Unit {0}

abbrev pub AllStay : Result Counts Refusal → Type 0
AllStay (Ok after) = list_all in_range (counts_of after) ≡ true
AllStay (Err e) = Unit {0}
