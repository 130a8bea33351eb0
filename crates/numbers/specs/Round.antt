-- Numbers that come round: M of them, 0 to M - 1. What is counted as k, from 0 on, has the number k % M.
use Rattle.std.specs.Prelude.{◌≡◌, ℕ, zero, suc, ◌+◌, ◌-◌, ◌%◌, ◌<◌, Bool, false, cond, ◌&&◌, List, [], ◌∷◌, length, Some, None, Option, ◌==◌, nat_le, nat_lt, slice_index}

-- the number after n: from the last of them, and from what is none of them, it comes round to 0
abbrev pub after : ℕ → ℕ → ℕ
after M n = cond (nat_lt (n + 1) M) (n + 1) 0

-- how a count is told: by the number of the last that it counts, and by none where it counts nothing
abbrev pub code : ℕ → ℕ → Option ℕ
code M a = cond (a == 0) None (Some ((a - 1) % M))

-- the number that is due after the last one accepted: 0 where nothing was
abbrev pub due : ℕ → Option ℕ → ℕ
due M None = 0
due M (Some n) = after M n

-- the numbers from that of F on, n of them
abbrev pub run : ℕ → ℕ → ℕ → List ℕ
run M F zero = []
run M F (suc n) = F % M ∷ run M (F + 1) n

-- numbers that follow each other from that of F on
abbrev pub Consecutive : ℕ → ℕ → List ℕ → Type 0
Consecutive M F ns = (i : ℕ) → i < length ns → slice_index ns i ≡ (F + i) % M

-- whether the last acknowledgement taken is r
abbrev pub is : Option ℕ → ℕ → Bool
is None r = false
is (Some n) r = n == r

abbrev pub one_more : Option ℕ → Option ℕ
one_more None = None
one_more (Some n) = Some (n + 1)

-- the first place of a number in a list, counted from 1
abbrev pub place : List ℕ → ℕ → Option ℕ
place [] r = None
place (n ∷ ns) r = cond (n == r) (Some 1) (one_more (place ns r))

-- how many an acknowledgement r frees, as the rule reads: none where it is the last one taken; where it is the
-- number of one that was sent, this one and all before it; any other is illegal
abbrev pub freed_among : Option ℕ → List ℕ → ℕ → Option ℕ
freed_among last sent r = cond (is last r) (Some 0) (place sent r)

-- how far r lies behind the number n
abbrev pub distance : ℕ → ℕ → ℕ → ℕ
distance M n r = cond (nat_le n r) (r - n) (r + (M - n))

-- the place of r, without a search, among `ever` numbers from the number `oldest` on
abbrev pub place_at_once : ℕ → ℕ → ℕ → ℕ → Option ℕ
place_at_once M oldest ever r = cond (nat_lt r M && nat_lt (distance M oldest r) ever) (Some (distance M oldest r + 1)) None

-- and what an acknowledgement r frees, where these were sent
abbrev pub freed_at_once : ℕ → Option ℕ → ℕ → ℕ → ℕ → Option ℕ
freed_at_once M last oldest ever r = cond (is last r) (Some 0) (place_at_once M oldest ever r)
