-- A byte of a frame from its two groups.
use Rattle.std.proofs.Common.{◌≡◌, ℕ, ◌+◌, ◌*◌, ◌/◌, ◌%◌, ◌^◌, ◌<◌, List, get_or, ap, ◌∙◌, ap₂, arith}
use Rattle.line.specs.declared.width.Width.{Width}
use Rattle.line.specs.Code.{decoded}
use Rattle.line.specs.Places.{place, group_at}
use Rattle.line.specs.Groups.{number, group_bit}
use Rattle.line.proofs.Nibbles.{whole, number_same, low}

halves : (f : ℕ → ℕ) → number 8 f ≡ number 4 f + 16 * number 4 (λ k. f (4 + k))
unfolding number
halves f = omega arith

-- the bits of a group, at the places of four bits of the frame
half :
    (w : Width) (groups : List ℕ) (h : ℕ) → h < 80 → decoded (get_or groups (group_at w h) 0) < 16
    → number 4 (λ k. group_bit groups (place w (4 * h + k))) ≡ decoded (get_or groups (group_at w h) 0)
half w groups h l s =
    let x = decoded (get_or groups (group_at w h) 0) in
    number_same 4 (λ k. group_bit groups (place w (4 * h + k))) (λ k. x / 2 ^ k % 2)
    (λ k m.
    let d : (4 * h + k) / 4 ≡ h = omega arith in
    let e : place w (4 * h + k) ≡ 4 * group_at w h + k =
    whole w (4 * h + k) (omega arith) ∙ ap₂ (λ (a b : ℕ). 4 * group_at w a + b) d (omega arith) in
    ap₂ (λ (q r : ℕ). decoded (get_or groups q 0) / 2 ^ r % 2) (omega (arith, e)) (omega (arith, e)))
    ∙ low x
    ∙ omega arith

pub byte :
    (w : Width) (groups : List ℕ) (b : ℕ) → b < 40 → decoded (get_or groups (group_at w (2 * b)) 0) < 16
    → decoded (get_or groups (group_at w (2 * b + 1)) 0) < 16
    → number 8 (λ j. group_bit groups (place w (8 * b + j)))
    ≡ decoded (get_or groups (group_at w (2 * b)) 0) + 16 * decoded (get_or groups (group_at w (2 * b + 1)) 0)
byte w groups b l s t =
    let F : ℕ → ℕ = λ j. group_bit groups (place w (8 * b + j)) in
    halves F
    ∙ ap₂ (λ (x y : ℕ). x + 16 * y)
    (number_same 4 F (λ k. group_bit groups (place w (4 * (2 * b) + k))) (λ k m. ap (λ (n : ℕ). group_bit groups (place w n)) (omega arith))
    ∙ half w groups (2 * b) (omega arith) s)
    (number_same 4 (λ k. F (4 + k)) (λ k. group_bit groups (place w (4 * (2 * b + 1) + k))) (λ k m. ap (λ (n : ℕ). group_bit groups (place w n)) (omega arith))
    ∙ half w groups (2 * b + 1) (omega arith) t)
