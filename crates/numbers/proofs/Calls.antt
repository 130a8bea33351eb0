-- What an answer, once it is the one that is defined, says of the counts behind the numbers.
use Rattle.std.proofs.Common.{◌≡◌, ℕ, ◌+◌, ◌-◌, ◌%◌, ◌<◌, ◌≤◌, Bool, eqb, List, length, take, Some, None, Option, sym, ap, ◌∙◌}
use Rattle.numbers.specs.Round.{after, code, due, run, Consecutive, freed_among, freed_at_once}
use Rattle.numbers.specs.Laws.{Held}
use Rattle.numbers.proofs.Numbers.{next_number, due_number, due_exactly}
use Rattle.numbers.proofs.Search.{take_run, run_held, run_frees, run_illegal}

pub follows : (M n r : ℕ) → r ≡ after M n → (k : ℕ) → 0 < M → n ≡ k % M → r ≡ (k + 1) % M
follows M n r e k pos at = e ∙ ap (after M) at ∙ sym (next_number M k pos)

pub counted : (M r : ℕ) (last : Option ℕ) → r ≡ due M last → (a : ℕ) → 0 < M → last ≡ code M a → r ≡ a % M
counted M r last e a pos told = e ∙ ap (due M) told ∙ due_number M a pos

pub right :
    (M n : ℕ) (last : Option ℕ) (b : Bool) →
    b ≡ eqb n (due M last) →
    (a k : ℕ) →
    last ≡ code M a →
    n ≡ k % M →
    a < k + M →
    k < a + M →
    b ≡ eqb k a
right M n last b e a k told number lo hi =
    e ∙ ap (λ x. eqb x (due M last)) number ∙ ap (λ o. eqb (k % M) (due M o)) told ∙ due_exactly M a k lo hi

module _ (M oldest ever r : ℕ) (last x : Option ℕ) (e : x ≡ freed_at_once M last oldest ever r) where
  pub found :
      (f : ℕ) (numbers : List ℕ) →
      Held M f last oldest ever →
      ever ≤ length numbers →
      Consecutive M f numbers →
      x ≡ freed_among last (take ever numbers) r
  found f numbers h long c =
      e ∙ run_held M f oldest ever r last h ∙ ap (λ ns. freed_among last ns r) (sym (take_run M f ever numbers long c))

  told : (f : ℕ) → Held M f last oldest ever → x ≡ freed_among (code M f) (run M f ever) r
  told f h = e ∙ run_held M f oldest ever r last h ∙ ap (λ o. freed_among o (run M f ever) r) h.taken

  pub frees : (f a : ℕ) → Held M f last oldest ever → f ≤ a → a ≤ f + ever → code M a ≡ Some r → x ≡ Some (a - f)
  frees f a h lo hi is = told f h ∙ run_frees M f ever a r h.narrow lo hi is

  pub illegal : (f : ℕ) → Held M f last oldest ever → ((a : ℕ) → f ≤ a → a ≤ f + ever → code M a ≡ Some r → ⊥) → x ≡ None
  illegal f h none = told f h ∙ run_illegal M f ever r none
