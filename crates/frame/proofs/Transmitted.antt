-- The order in which a frame's bytes are covered.
use Rattle.std.proofs.Common.{◌≡◌, ℕ, zero, suc, ◌+◌, ◌≤◌, List, [], ◌∷◌, map, length, get_or, take, drop, refl, ap, ◌∙◌, arith, drop-cons}
use Rattle.crc.specs.Serial.{byte_in, through}
use Rattle.frame.specs.Checks.{order, covered, link_check}

-- n numbers from k on
abbrev counted : ℕ → ℕ → List ℕ
counted k zero = []
counted k (suc n) = k ∷ counted (suc k) n

-- elements in a row, one by one
in_a_row : (n k : ℕ) (xs : List ℕ) → k + n ≤ length xs → take n (drop k xs) ≡ map (λ i. get_or xs i 0) (counted k n)
in_a_row zero k xs h = refl
in_a_row (suc n) k xs h =
    ap (take (suc n)) (drop-cons xs k 0 (omega arith)) ∙ ap (λ (l : List ℕ). get_or xs k 0 ∷ l) (in_a_row n (suc k) xs (omega arith))

-- eight data bytes and two control bytes at a time
abbrev pub ten : ℕ → List ℕ → ℕ → ℕ → ℕ
ten r content low high = byte_in 0x8408 (byte_in 0x8408 (through 0x8408 r content) low) high

pub in_order :
    (xs : List ℕ) → length xs ≡ 40
    → through 0x8408
    (ten (ten (ten 0xFFFF (take 8 (drop 0 xs)) (get_or xs 39 0) (get_or xs 38 0)) (take 8 (drop 8 xs)) (get_or xs 37 0) (get_or xs 36 0))
    (take 8 (drop 16 xs)) (get_or xs 35 0) (get_or xs 34 0))
    (take 8 (drop 24 xs))
    ≡ link_check xs
unfolding link_check covered order through
in_order xs n =
    let a = in_a_row 8 0 xs (omega arith) in
    let b = in_a_row 8 8 xs (omega arith) in
    let c = in_a_row 8 16 xs (omega arith) in
    let d = in_a_row 8 24 xs (omega arith) in
    rw (a, b, c, d) refl
