-- The numbers that words write.
use Rattle.std.specs.Prelude.{◌≡◌, ℕ, ◌+◌, ◌-◌, ◌*◌, ◌^◌, ◌<◌, Bool, true, false, cond, ◌&&◌, List, [], ◌∷◌, length, drop, ℤ, pos, neg_ℤ, Some, None, decimal, Option, ◌==◌, nat_le, slice_index}
use Rattle.std.specs.Option.{option_map}

abbrev pub is_digit : ℕ → Bool
is_digit c = nat_le 48 c && nat_le c 57

abbrev pub digit_of : ℕ → Option ℕ
digit_of c = cond (is_digit c) (Some (c - 48)) None

-- the number that n and the digits behind it write; none where a byte is no digit
abbrev pub read_on : ℕ → List ℕ → Option ℕ
read_on n [] = Some n
read_on n (c ∷ cs) = cond (is_digit c) (read_on (n * 10 + (c - 48)) cs) None

-- one or more digits
abbrev pub decimal_value : List ℕ → Option ℕ
decimal_value [] = None
decimal_value (c ∷ cs) = read_on 0 (c ∷ cs)

abbrev pub within : ℕ → ℕ → Option ℕ
within limit n = cond (nat_le n limit) (Some n) None

abbrev pub at_most : ℕ → Option ℕ → Option ℕ
at_most limit None = None
at_most limit (Some n) = within limit n

-- a word of digits, however many, whose number is at most the limit
unfoldable pub number_of : ℕ → List ℕ → Option ℕ
number_of limit word = at_most limit (decimal_value word)

-- a number of at most 2^31 - 1, or a minus sign and one of at most 2^31
abbrev pub signed_of : List ℕ → Option ℤ
signed_of word = cond (slice_index word 0 == 45) (option_map (λ n. neg_ℤ (pos n)) (number_of (2 ^ 31) (drop 1 word))) (option_map (λ n. pos n) (number_of (2 ^ 31 - 1) word))

-- just one digit, 0 or 1
abbrev pub bit_of : List ℕ → Option Bool
bit_of word = cond (length word == 1) (cond (slice_index word 0 == 48) (Some false) (cond (slice_index word 0 == 49) (Some true) None)) None

-- what `{n}` writes of a number is read back
abbrev pub NumbersComeBack : Type 0
NumbersComeBack = (n : ℕ) → n < 2 ^ 64 → number_of (2 ^ 64 - 1) (decimal n) ≡ Some n
