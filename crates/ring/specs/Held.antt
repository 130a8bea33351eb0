-- What of a list a ring holds, oldest first: the elements at some places that follow each other round the end.
use Rattle.std.specs.Prelude.{ℕ, ◌+◌, ◌-◌, min, cond, List, ◌++◌, length, take, drop, nat_lt}

-- a list turned so that its element i comes first
abbrev pub turned : {X : Type 0} → List X → ℕ → List X
turned xs i = drop i xs ++ take i xs

-- of the first n elements, the len that follow each other from first on, round the end
abbrev pub held : {X : Type 0} → List X → ℕ → ℕ → ℕ → List X
held xs n first len = take len (turned (take n xs) first)

-- where the oldest lies, of n places: at 0 where first is none of them
unfoldable pub start_of : ℕ → ℕ → ℕ
start_of first n = cond (nat_lt first n) first 0

-- the place that is i after first, of n places, round the end
unfoldable pub place_of : ℕ → ℕ → ℕ → ℕ
place_of n first i = cond (nat_lt i (n - first)) (first + i) (i - (n - first))

-- what the numbers of a ring pick from a list: one that is too large is read as the largest that makes sense
unfoldable pub window : {X : Type 0} → List X → ℕ → ℕ → ℕ → List X
window xs size first len = held xs (min size (length xs)) (start_of first (min size (length xs))) (min len (min size (length xs)))
