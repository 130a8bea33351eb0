-- Where each bit of a frame stands among the groups of a frame, at both widths.
use Rattle.std.specs.Prelude.{◌≡◌, ℕ, zero, suc, ◌+◌, ◌-◌, ◌*◌, ◌/◌, ◌%◌, ◌<◌, cond, List, [], Ok, Err, Result, ◌==◌, nat_lt, slice_index, slice_index_or}
use Rattle.frame.specs.declared.refusal.Refusal.{Refusal}
use Rattle.frame.specs.declared.refusal.Refusal.TheVariants.{BadSize}
use Rattle.line.specs.declared.width.Width.{Width}
use Rattle.line.specs.declared.width.Width.TheVariants.{Wide, Narrow}

-- how many lines there are, data and control
abbrev pub lines : Width → ℕ
lines Wide = 20
lines Narrow = 10

-- bit k of a line's group: all lines' first groups first, data lines before control lines
abbrev pub at_group : Width → ℕ → ℕ → ℕ → ℕ
at_group w group line k = 4 * (lines w * group + line) + k

-- data bit y of byte b
abbrev pub data_place : Width → ℕ → ℕ → ℕ
data_place Wide b y = at_group Wide (b / 8) (2 * (b % 8) + y / 4) (y % 4)
data_place Narrow b y = at_group Narrow (2 * (b / 8) + y / 4) (b % 8) (y % 4)

-- control bit c
abbrev pub control_place : Width → ℕ → ℕ
control_place Wide c = at_group Wide (c / 16) (16 + c % 16 / 4) (c % 4)
control_place Narrow c = at_group Narrow (2 * (c / 16) + c % 8 / 4) (8 + c % 16 / 8) (c % 4)

-- bit n of a frame is bit n mod 8 of byte n div 8; bytes 32 to 39 hold the control bits, 63 first
unfoldable pub place : Width → ℕ → ℕ
place w n = cond (nat_lt (n / 8) 32) (data_place w (n / 8) (n % 8)) (control_place w (8 * (39 - n / 8) + n % 8))

-- four bits of a frame, 4 * h to 4 * h + 3, stay together: the group that has them
unfoldable pub group_at : Width → ℕ → ℕ
group_at w h = place w (4 * h) / 4

abbrev pub placed : Width → ℕ → Result ℕ Refusal
placed w n = cond (nat_lt n 320) (Ok (place w n)) (Err BadSize)

-- the last number below n that f takes to p
unfoldable pub sought : (ℕ → ℕ) → ℕ → ℕ → ℕ
sought f p zero = 0
sought f p (suc n) = cond (f n == p) n (sought f p n)

-- the bit of the frame that stands at a place
abbrev pub standing : Width → ℕ → ℕ
standing w p = sought (place w) p 320

-- numbers below n taken to numbers below n, each once
pub record Permutation (n : ℕ) (f : ℕ → ℕ) : Type 0 where
  pub within : (k : ℕ) → k < n → f k < n
  pub apart : (j k : ℕ) → j < n → k < n → f j ≡ f k → j ≡ k
  pub reach : (p : ℕ) → p < n → (sought f p n < n) × (f (sought f p n) ≡ p)

-- a table with a row for each byte, and in it the places of its bits
pub record Table (w : Width) (rows : List (List ℕ)) : Type 0 where
  pub entries : (n : ℕ) → n < 320 → slice_index (slice_index_or rows (n / 8) []) (n % 8) ≡ place w n
