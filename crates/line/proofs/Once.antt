-- The places of both widths are a permutation, and the tables have them: tests that antt computes.
use Rattle.std.proofs.Common.{◌≡◌, ℕ, ◌+◌, ◌*◌, ◌/◌, ◌%◌, ◌<◌, Bool, true, ◌&&◌, eqb, ltb, List, [], get_or, sym, refl, ap, ◌∙◌, ap₂, arith, eqb-true}
use Rattle.std.proofs.lemmas.Bool.Decides.{nat_tests}
use Rattle.line.specs.declared.width.Width.{Width}
use Rattle.line.specs.declared.width.Width.TheVariants.{Wide, Narrow}
use Rattle.line.specs.Places.{Permutation, Table, place, sought}
use Rattle.line.proofs.Computed.{below, at_below}

-- k is taken to a number below n, and found there again
abbrev pub back : ℕ → (ℕ → ℕ) → ℕ → Bool
back n f k = ltb (f k) n && eqb (sought f (f k) n) k

abbrev pub met : ℕ → (ℕ → ℕ) → ℕ → Bool
met n f p = ltb (sought f p n) n && eqb (f (sought f p n)) p

pub permutation : (n : ℕ) (f : ℕ → ℕ) → below (back n f) n ≡ true → below (met n f) n ≡ true → Permutation n f
permutation n f t u =
    let test : (k : ℕ) → k < n → back n f k ≡ true = at_below (back n f) n t in
    let has : (p : ℕ) → p < n → met n f p ≡ true = at_below (met n f) n u in
    let again : (k : ℕ) → k < n → sought f (f k) n ≡ k = λ k h. let e = test k h in grind (arith, nat_tests) in
    record {
      within = λ k h. let e = test k h in grind (arith, nat_tests);
      apart = λ j k hj hk e. sym (again j hj) ∙ ap (λ (x : ℕ). sought f x n) e ∙ again k hk;
      reach = λ p h. let e = has p h in (grind (arith, nat_tests), grind (arith, nat_tests));
    }

wide_once : Permutation 320 (place Wide)
unfolding place sought
wide_once = permutation 320 (place Wide) refl refl

narrow_once : Permutation 320 (place Narrow)
unfolding place sought
narrow_once = permutation 320 (place Narrow) refl refl

pub once : (w : Width) → Permutation 320 (place w)
once Wide = wide_once
once Narrow = narrow_once

abbrev pub same : Width → List (List ℕ) → ℕ → Bool
same w rows n = eqb (get_or (get_or rows (n / 8) []) (n % 8) 0) (place w n)

pub table : (w v : Width) (rows : List (List ℕ)) → w ≡ v → below (same v rows) 320 ≡ true → Table w rows
table w v rows e t =
    record {
      entries = λ n h.
          eqb-true (get_or (get_or rows (n / 8) []) (n % 8) 0) (place v n) (at_below (same v rows) 320 t n h)
          ∙ ap (λ (x : Width). place x n) (sym e);
    }

-- the place of bit k of byte b
pub entry :
    (w : Width) (rows : List (List ℕ)) → Table w rows → (b k n : ℕ) → b < 40 → k < 8 → n ≡ 8 * b + k
    → get_or (get_or rows b []) k 0 ≡ place w n
entry w rows t b k n hb hk e =
    ap₂ (λ (q r : ℕ). get_or (get_or rows q []) r 0) (omega arith) (omega arith) ∙ t.entries n (omega arith)
