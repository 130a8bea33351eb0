-- The arithmetic of numbers that come round.
use Rattle.std.proofs.Common.{◌≡◌, ℕ, ◌+◌, ◌-◌, ◌%◌, ◌<◌, ◌≤◌, eqb, ◌⊎◌, Some, Option, ap, mod-eq_of_lt, arith}
use native.Mathlib.Nat.{mod-add-mod, mod-eq-sub-mod}
use Rattle.std.proofs.lemmas.Bool.Decides.{nat_tests}
use Rattle.numbers.specs.Round.{after, code, due}

-- d < M further on, the number is d more, or d more less M. This is the one place where `%` is taken apart: from here
-- on the numbers are unknowns below M
pub step : (M a d : ℕ) → 0 < M → d < M → ((a + d) % M ≡ a % M + d) ⊎ ((a + d) % M + M ≡ a % M + d)
step M a d pos lt =
    let e : (a % M + d) % M ≡ (a + d) % M = mod-add-mod a M d in
    let low : a % M + d < M → (a % M + d) % M ≡ a % M + d = mod-eq_of_lt in
    let high : M ≤ a % M + d → (a % M + d) % M ≡ (a % M + d - M) % M = mod-eq-sub-mod in
    let over : a % M + d - M < M → (a % M + d - M) % M ≡ a % M + d - M = mod-eq_of_lt in
    grind arith

-- the same between two, of which k is the later
pub turn : (M a k : ℕ) → 0 < M → a ≤ k → k < a + M → (k % M + a ≡ a % M + k) ⊎ (k % M + M + a ≡ a % M + k)
turn M a k pos le lt =
    let e : a + (k - a) ≡ k = omega arith in
    let f = ap (λ x. x % M) e in
    let s = step M a (k - a) pos (omega arith) in
    grind arith

-- two less than M apart that have one number are one
pub same_number : (M a k : ℕ) → a % M ≡ k % M → a < k + M → k < a + M → a ≡ k
same_number M a k e la lk =
    let pos : 0 < M = omega arith in
    let s = turn M a k pos in
    let t = turn M k a pos in
    grind arith

-- the number after that of n is that of n + 1
pub next_number : (M n : ℕ) → 0 < M → (n + 1) % M ≡ after M (n % M)
next_number M n pos = let s = step M n 1 pos in grind (arith, nat_tests)

pub code_pos : (M a : ℕ) → 0 < a → code M a ≡ Some ((a - 1) % M)
code_pos M a h = grind (arith, nat_tests)

pub same_some : (o : Option ℕ) (m n : ℕ) → o ≡ Some m → o ≡ Some n → m ≡ n
same_some o m n p q = cc

-- two less than M apart that are told alike are one
pub same_code : (M a b : ℕ) → code M a ≡ code M b → a < b + M → b < a + M → a ≡ b
same_code M a b e la lb = let s = same_number M (a - 1) (b - 1) in grind (arith, nat_tests)

-- where a count A is told, the number that is due is that of A
pub due_number : (M A : ℕ) → 0 < M → due M (code M A) ≡ A % M
due_number M A pos =
    let e : 0 < A → A - 1 + 1 ≡ A = λ lt. omega arith in
    let f : 0 < A → (A - 1 + 1) % M ≡ A % M = λ lt. ap (λ x. x % M) (e lt) in
    let n = next_number M (A - 1) pos in
    grind (arith, nat_tests)

-- a copy of k, less than M from A, has the number that is due exactly where it is of A
pub due_exactly : (M A k : ℕ) → A < k + M → k < A + M → eqb (k % M) (due M (code M A)) ≡ eqb k A
due_exactly M A k la lk =
    let pos : 0 < M = omega arith in
    let s = same_number M k A in
    let n = due_number M A pos in
    grind (arith, nat_tests)
