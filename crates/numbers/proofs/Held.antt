-- The numbers that an end keeps, as it loads, accepts and frees.
use Rattle.std.proofs.Common.{◌≡◌, ℕ, ◌+◌, ◌-◌, ◌%◌, ◌<◌, List, [], ◌∷◌, ◌++◌, length, get_or, drop, Some, sym, ap, ◌∙◌, inl, inr, add-zero, arith}
use Rattle.std.proofs.lemmas.List.{get_or_append_left, get_or_push, get_or-drop, length_push, length-drop}
use Rattle.std.proofs.lemmas.Bool.{cases_lt}
use Rattle.numbers.specs.Round.{code, due, Consecutive}
use Rattle.numbers.proofs.Numbers.{code_pos, due_number}

-- once what is due is accepted, its number tells one more
pub code_accept : (M A : ℕ) → 0 < M → Some (due M (code M A)) ≡ code M (A + 1)
code_accept M A pos =
    let e : A + 1 - 1 ≡ A = omega arith in
    ap Some (due_number M A pos ∙ ap (λ n. n % M) (sym e)) ∙ sym (code_pos M (A + 1) (omega arith))

pub consecutive_none : (M F : ℕ) → Consecutive M F []
consecutive_none M F i lt = absurd (omega arith)

-- the oldest of those held has the number of the first that was not freed
pub consecutive_first : (M F : ℕ) (ns : List ℕ) → Consecutive M F ns → 0 < length ns → get_or ns 0 0 ≡ F % M
consecutive_first M F ns c lt = c 0 lt ∙ ap (λ n. n % M) (add-zero F)

-- one more is loaded
pub consecutive_push : (M F n : ℕ) (ns : List ℕ) → n ≡ (F + length ns) % M → Consecutive M F ns → Consecutive M F (ns ++ n ∷ [])
consecutive_push M F n ns e c i lt =
    elim (cases_lt i (length ns)) [
      | inl below ↦ get_or_append_left ns (n ∷ []) 0 i below ∙ c i below
      | inr above ↦
          let here : length ns ≡ i = omega (arith, length_push ns n) in
          get_or_push ns n 0 i here ∙ e ∙ ap (λ k. (F + k) % M) here
    ]

-- the oldest are freed
pub consecutive_drop : (M F x : ℕ) (ns : List ℕ) → Consecutive M F ns → Consecutive M (F + x) (drop x ns)
consecutive_drop M F x ns c i lt =
    let e : F + (x + i) ≡ F + x + i = omega arith in
    get_or-drop x ns i 0 ∙ c (x + i) (omega (arith, length-drop x ns)) ∙ ap (λ k. k % M) e
