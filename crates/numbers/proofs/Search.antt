-- What an acknowledgement frees, by a search among the numbers that were sent and without one.
use Rattle.std.proofs.Common.{◌≡◌, ℕ, zero, suc, ◌+◌, ◌-◌, ◌%◌, ◌<◌, ◌≤◌, true, false, cond, List, [], ◌∷◌, length, take, Some, None, Option, sym, refl, ap, ◌∙◌, inl, inr, add-zero, arith}
use Rattle.std.proofs.lemmas.Bool.{cases_lt}
use Rattle.std.proofs.lemmas.Bool.Decides.{nat_tests}
use Rattle.numbers.specs.Round.{code, run, Consecutive, place, is, distance, place_at_once, freed_among, freed_at_once}
use Rattle.numbers.specs.Laws.{Held}
use Rattle.numbers.proofs.Numbers.{step, same_number, same_code, code_pos, same_some}

-- the first of a list of numbers that follow each other are a run of them
pub take_run : (M F ever : ℕ) (ns : List ℕ) → ever ≤ length ns → Consecutive M F ns → take ever ns ≡ run M F ever
take_run M F zero ns le c = refl
take_run M F (suc n) [] le c = absurd (omega arith)
take_run M F (suc n) (x ∷ ns) le c =
    let first : x ≡ (F + 0) % M = c 0 (omega arith) in
    let plain : F + 0 ≡ F = add-zero F in
    let rest : Consecutive M (F + 1) ns = λ i lt.
    let e : F + suc i ≡ F + 1 + i = omega arith in
    c (suc i) (omega arith) ∙ ap (λ y. y % M) e in
    let tail = take_run M (F + 1) n ns (omega arith) rest in
    let head : x ≡ F % M = first ∙ ap (λ y. y % M) plain in
    cc

-- in a run of at most M numbers no two are one
pub place_run : (M F n j : ℕ) → n ≤ M → j < n → place (run M F n) ((F + j) % M) ≡ Some (j + 1)
place_run M F zero j le lt = absurd (omega arith)
place_run M F (suc n) zero le lt = let e = ap (λ y. y % M) (add-zero F) in grind (arith, nat_tests)
place_run M F (suc n) (suc j) le lt =
    let e : F + suc j ≡ F + 1 + j = omega arith in
    let f = ap (λ y. y % M) e in
    let s = same_number M F (F + suc j) in
    let rest = ap (place (run M (F + 1) n)) f ∙ place_run M (F + 1) n j (omega arith) (omega arith) in
    grind (arith, nat_tests)

pub place_none : (M F n r : ℕ) → ((j : ℕ) → j < n → (F + j) % M ≡ r → ⊥) → place (run M F n) r ≡ None
place_none M F zero r none = refl
place_none M F (suc n) r none =
    let here : F % M ≡ r → ⊥ = λ q. none 0 (omega arith) (ap (λ y. y % M) (add-zero F) ∙ q) in
    let after : (j : ℕ) → j < n → (F + 1 + j) % M ≡ r → ⊥ = λ j lt q.
    let e : F + suc j ≡ F + 1 + j = omega arith in
    none (suc j) (omega arith) (ap (λ y. y % M) e ∙ q) in
    let rest = place_none M (F + 1) n r after in
    grind (arith, nat_tests)

is_true : (o : Option ℕ) (r : ℕ) → o ≡ Some r → is o r ≡ true
is_true o r e = ap (λ x. is x r) e ∙ grind (arith, nat_tests)

is_false : (o : Option ℕ) (r : ℕ) → (o ≡ Some r → ⊥) → is o r ≡ false
is_false None r ne = refl
is_false (Some n) r ne = let apart : n ≡ r → ⊥ = λ e. ne (ap Some e) in grind (arith, nat_tests)

-- r is the number of what comes its distance after F
distance_right : (M F r : ℕ) → r < M → (distance M (F % M) r < M) × ((F + distance M (F % M) r) % M ≡ r)
distance_right M F r lt =
    let less : distance M (F % M) r < M = grind (arith, nat_tests) in
    let s = step M F (distance M (F % M) r) (omega arith) less in
    (less, grind (arith, nat_tests))

-- the place of r in a run is reckoned at once
pub run_place : (M F ever r : ℕ) → ever < M → place (run M F ever) r ≡ place_at_once M (F % M) ever r
run_place M F ever r win =
    let d : ℕ = distance M (F % M) r in
    elim (cases_lt r M) [
      | inr high ↦ let h = place_none M F ever r (λ j lt q. omega arith) in grind (arith, nat_tests)
      | inl low ↦
          let right = distance_right M F r low in
          elim (cases_lt d ever) [
            | inl sent ↦
                let h = ap (place (run M F ever)) (sym right.1) ∙ place_run M F ever d (omega arith) sent in
                grind (arith, nat_tests)
            | inr past ↦
                let none : (j : ℕ) → j < ever → (F + j) % M ≡ r → ⊥ = λ j lt q.
                let s = same_number M (F + j) (F + d) (q ∙ sym right.1) (omega arith) (omega arith) in
                omega arith in
                let h = place_none M F ever r none in
                grind (arith, nat_tests)
          ]
    ]

-- the search among the numbers from that of F on comes to what is reckoned at once
pub run_at_once : (M F ever r : ℕ) (last : Option ℕ) → ever < M → freed_among last (run M F ever) r ≡ freed_at_once M last (F % M) ever r
run_at_once M F ever r last win = ap (cond (is last r) (Some 0)) (run_place M F ever r win)

-- where nothing was sent, the oldest number does not matter
pub at_once_oldest :
    (M F oldest ever r : ℕ) (last : Option ℕ) →
    (0 < ever → oldest ≡ F % M) →
    freed_at_once M last oldest ever r ≡ freed_at_once M last (F % M) ever r
at_once_oldest M F oldest ever r last from =
    elim (cases_lt 0 ever) [
      | inl lt ↦ ap (λ n. freed_at_once M last n ever r) (from lt)
      | inr le ↦ grind (arith, nat_tests)
    ]

pub run_held :
    (M F oldest ever r : ℕ) (last : Option ℕ) → Held M F last oldest ever → freed_at_once M last oldest ever r ≡ freed_among last (run M F ever) r
run_held M F oldest ever r last h = at_once_oldest M F oldest ever r last h.from ∙ sym (run_at_once M F ever r last h.narrow)

-- a count of those sent frees up to itself
pub run_frees :
    (M F ever a r : ℕ) → ever < M → F ≤ a → a ≤ F + ever → code M a ≡ Some r → freed_among (code M F) (run M F ever) r ≡ Some (a - F)
run_frees M F ever a r win lo hi e =
    elim (cases_lt F a) [
      | inr le ↦
          let same : F ≡ a = omega arith in
          let is-it = is_true (code M F) r (ap (code M) same ∙ e) in
          grind (arith, nat_tests)
      | inl lt ↦
          let s = same_code M F a in
          let apart : code M F ≡ Some r → ⊥ = λ q. let z = s (q ∙ sym e) (omega arith) (omega arith) in omega arith in
          let not-it = is_false (code M F) r apart in
          let number = same_some (code M a) ((a - 1) % M) r (code_pos M a (omega arith)) e in
          let there : F + (a - 1 - F) ≡ a - 1 = omega arith in
          let found = place_run M F ever (a - 1 - F) (omega arith) (omega arith) in
          let moved = ap (place (run M F ever)) (ap (λ x. x % M) there ∙ number) in
          grind (arith, nat_tests)
    ]

-- and what tells no such count is illegal
pub run_illegal :
    (M F ever r : ℕ) →
    ((a : ℕ) → F ≤ a → a ≤ F + ever → code M a ≡ Some r → ⊥) →
    freed_among (code M F) (run M F ever) r ≡ None
run_illegal M F ever r none =
    let past : (j : ℕ) → j < ever → (F + j) % M ≡ r → ⊥ = λ j lt q.
    let e : F + j + 1 - 1 ≡ F + j = omega arith in
    none (F + j + 1) (omega arith) (omega arith) (code_pos M (F + j + 1) (omega arith) ∙ ap Some (ap (λ x. x % M) e ∙ q)) in
    let not-it = is_false (code M F) r (none F (omega arith) (omega arith)) in
    let absent = place_none M F ever r past in
    grind (arith, nat_tests)
