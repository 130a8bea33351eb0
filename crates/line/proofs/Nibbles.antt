-- Four bits of a frame stay together and in order, so that each group is four bits of the frame.
use Rattle.std.proofs.Common.{◌≡◌, ℕ, zero, suc, ◌+◌, ◌*◌, ◌/◌, ◌%◌, ◌^◌, ◌<◌, Bool, true, eqb, ◌≢◌, ◌⊎◌, List, length, get_or, set, sym, refl, ap, ◌∙◌, ap₂, inl, inr, arith, eqb-true, below_more}
use Rattle.std.proofs.lemmas.Bool.{cases_lt}
use Rattle.std.proofs.lemmas.List.{get_or-set_same, get_or-set_other}
use Rattle.line.specs.declared.width.Width.{Width}
use Rattle.line.specs.declared.width.Width.TheVariants.{Wide, Narrow}
use Rattle.line.specs.Places.{Permutation, place, group_at, sought, standing}
use Rattle.line.specs.Groups.{number, frame_bit, code_at}
use Rattle.line.proofs.Computed.{below, at_below}
use Rattle.line.proofs.Once.{permutation, once}

abbrev whole_at : Width → ℕ → Bool
whole_at w n = eqb (place w n) (4 * group_at w (n / 4) + n % 4)

whole_test : (w : Width) → below (whole_at w) 320 ≡ true
unfolding place group_at
whole_test Wide = refl
whole_test Narrow = refl

pub whole : (w : Width) (n : ℕ) → n < 320 → place w n ≡ 4 * group_at w (n / 4) + n % 4
whole w n h = eqb-true (place w n) (4 * group_at w (n / 4) + n % 4) (at_below (whole_at w) 320 (whole_test w) n h)

pub groups_once : (w : Width) → Permutation 80 (group_at w)
unfolding place group_at sought
groups_once Wide = permutation 80 (group_at Wide) refl refl
groups_once Narrow = permutation 80 (group_at Narrow) refl refl

-- four bits of a frame
abbrev pub nibble : List ℕ → ℕ → ℕ
nibble frame h = get_or frame (h / 2) 0 / 16 ^ (h % 2) % 16

-- the four bits that stand in group g
abbrev pub source : Width → ℕ → ℕ
source w g = sought (group_at w) g 80

stands : (w : Width) (g k : ℕ) → g < 80 → k < 4 → standing w (4 * g + k) ≡ 4 * source w g + k
stands w g k hg hk =
    let r = (groups_once w).reach g hg in
    let s = (once w).reach (4 * g + k) (omega arith) in
    let d : (4 * source w g + k) / 4 ≡ source w g = omega arith in
    let e : place w (4 * source w g + k) ≡ 4 * g + k =
    whole w (4 * source w g + k) (omega (arith, r.0))
    ∙ ap₂ (λ (x y : ℕ). 4 * x + y) (ap (group_at w) d ∙ r.1) (omega arith) in
    (once w).apart (standing w (4 * g + k)) (4 * source w g + k) s.0 (omega (arith, r.0)) (s.1 ∙ sym e)

pub number_same : (n : ℕ) (f g : ℕ → ℕ) → ((k : ℕ) → k < n → f k ≡ g k) → number n f ≡ number n g
unfolding number
number_same zero f g h = refl
number_same (suc n) f g h =
    ap₂ (λ (a b : ℕ). a + 2 * b) (h 0 (omega arith)) (number_same n (λ k. f (suc k)) (λ k. g (suc k)) (λ k l. h (suc k) (omega arith)))

pub low : (x : ℕ) → number 4 (λ k. x / 2 ^ k % 2) ≡ x % 16
unfolding number
low x =
    let a : x / 4 ≡ x / 2 / 2 = omega arith in
    let b : x / 8 ≡ x / 4 / 2 = omega arith in
    let c : x / 16 ≡ x / 8 / 2 = omega arith in
    omega arith

high : (x : ℕ) → number 4 (λ k. x / 2 ^ (4 + k) % 2) ≡ x / 16 % 16
unfolding number
high x =
    let a : x / 32 ≡ x / 16 / 2 = omega arith in
    let b : x / 64 ≡ x / 32 / 2 = omega arith in
    let c : x / 128 ≡ x / 64 / 2 = omega arith in
    let d : x / 256 ≡ x / 128 / 2 = omega arith in
    let e : x / 16 / 16 ≡ x / 256 = omega arith in
    omega arith

parity : (h : ℕ) → (h % 2 ≡ 0) ⊎ (h % 2 ≡ 1)
parity h = elim (cases_lt (h % 2) 1) [ inl l ↦ inl (omega arith) | inr l ↦ inr (omega arith) ]

div_one : (x : ℕ) → x / 1 ≡ x
div_one x = omega arith

-- four bits of a frame, as a number
bits : (frame : List ℕ) (h : ℕ) → number 4 (λ k. frame_bit frame (4 * h + k)) ≡ nibble frame h
bits frame h =
    let byte = get_or frame (h / 2) 0 in
    elim (parity h) [
      | inl e ↦
          number_same 4 (λ k. frame_bit frame (4 * h + k)) (λ k. byte / 2 ^ k % 2)
          (λ k l. ap₂ (λ (q m : ℕ). get_or frame q 0 / 2 ^ m % 2) (omega arith) (omega arith))
          ∙ low byte
          ∙ ap (λ (m : ℕ). m % 16) (sym (div_one byte))
          ∙ ap (λ (m : ℕ). byte / 16 ^ m % 16) (sym e)
      | inr e ↦
          number_same 4 (λ k. frame_bit frame (4 * h + k)) (λ k. byte / 2 ^ (4 + k) % 2)
          (λ k l. ap₂ (λ (q m : ℕ). get_or frame q 0 / 2 ^ m % 2) (omega arith) (omega arith))
          ∙ high byte
          ∙ ap (λ (m : ℕ). byte / 16 ^ m % 16) (sym e)
    ]

pub code_nibble : (w : Width) (frame : List ℕ) (g : ℕ) → g < 80 → code_at w frame g ≡ nibble frame (source w g)
code_nibble w frame g h =
    number_same 4 (λ k. frame_bit frame (standing w (4 * g + k))) (λ k. frame_bit frame (4 * source w g + k))
    (λ k l. ap (frame_bit frame) (stands w g k h l))
    ∙ bits frame (source w g)

pub low_nibble : (frame : List ℕ) (b : ℕ) → nibble frame (2 * b) ≡ get_or frame b 0 % 16
low_nibble frame b =
    let q : 2 * b / 2 ≡ b = omega arith in
    let m : 2 * b % 2 ≡ 0 = omega arith in
    ap₂ (λ (x y : ℕ). get_or frame x 0 / 16 ^ y % 16) q m ∙ ap (λ (x : ℕ). x % 16) (div_one (get_or frame b 0))

pub high_nibble : (frame : List ℕ) (b : ℕ) → get_or frame b 0 < 256 → nibble frame (2 * b + 1) ≡ get_or frame b 0 / 16
high_nibble frame b h =
    let q : (2 * b + 1) / 2 ≡ b = omega arith in
    let m : (2 * b + 1) % 2 ≡ 1 = omega arith in
    let e : get_or frame b 0 / 16 % 16 ≡ get_or frame b 0 / 16 = omega arith in
    ap₂ (λ (x y : ℕ). get_or frame x 0 / 16 ^ y % 16) q m ∙ e

low_bit : (x k : ℕ) → k < 4 → x % 16 / 2 ^ k % 2 ≡ x / 2 ^ k % 2
low_bit x zero h = omega arith
low_bit x (suc zero) h = omega arith
low_bit x (suc (suc zero)) h = omega arith
low_bit x (suc (suc (suc zero))) h = omega arith
low_bit x (suc (suc (suc (suc k)))) h = absurd (omega arith)

higher : (x k : ℕ) → k < 4 → x / 16 / 2 ^ k ≡ x / 2 ^ (4 + k)
higher x zero h = omega arith
higher x (suc zero) h = omega arith
higher x (suc (suc zero)) h = omega arith
higher x (suc (suc (suc zero))) h = omega arith
higher x (suc (suc (suc (suc k)))) h = absurd (omega arith)

-- a bit of four bits of a frame
pub nibble_bit : (frame : List ℕ) (n : ℕ) → nibble frame (n / 4) / 2 ^ (n % 4) % 2 ≡ frame_bit frame n
nibble_bit frame n =
    let x = get_or frame (n / 8) 0 in
    let k = n % 4 in
    let q : n / 4 / 2 ≡ n / 8 = omega arith in
    elim (parity (n / 4)) [
      | inl e ↦
          ap₂ (λ (a m : ℕ). get_or frame a 0 / 16 ^ m % 16 / 2 ^ k % 2) q e
          ∙ ap (λ (a : ℕ). a % 16 / 2 ^ k % 2) (div_one x)
          ∙ low_bit x k (omega arith)
          ∙ ap (λ (m : ℕ). x / 2 ^ m % 2) (omega arith)
      | inr e ↦
          ap₂ (λ (a m : ℕ). get_or frame a 0 / 16 ^ m % 16 / 2 ^ k % 2) q e
          ∙ low_bit (x / 16) k (omega arith)
          ∙ ap (λ (m : ℕ). m % 2) (higher x k (omega arith))
          ∙ ap (λ (m : ℕ). x / 2 ^ m % 2) (omega arith)
    ]

-- a list that is written at the places of a permutation, one after the other
pub one_more :
    {A : Type 0} (n : ℕ) (f : ℕ → ℕ) → Permutation n f → (xs : List A) (d : A) (v : ℕ → A) (i p : ℕ) (x : A)
    → i < n → length xs ≡ n → p ≡ f i → x ≡ v i → ((k : ℕ) → k < i → get_or xs (f k) d ≡ v k)
    → (k : ℕ) → k < i + 1 → get_or (set xs p x) (f k) d ≡ v k
one_more n f P xs d v i p x hi len e q inv =
    below_more _ _
    (λ k h.
    let apart : f k ≢ p = λ t. absurd (omega (arith, P.apart k i (omega arith) hi (t ∙ e))) in
    get_or-set_other xs p (f k) x d apart ∙ inv k h)
    (ap (λ (m : ℕ). get_or (set xs p x) m d) (sym e)
    ∙ get_or-set_same xs p x d (omega (arith, P.within i hi))
    ∙ q)
