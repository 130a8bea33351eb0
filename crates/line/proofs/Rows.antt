-- The standard's table is good, and its middle bit tells what a look_up would: one test at each row, and one at each word.
use Rattle.std.proofs.Common.{◌≡◌, ℕ, ◌+◌, ◌<◌, Bool, true, false, ◌&&◌, eqb, leb, List, [], ◌∷◌, length, Some, None, Option, sym, refl, ap, ◌∙◌, arith, eqb-true}
use borrow.Author.Tests.{clash}
use Rattle.std.proofs.lemmas.Bool.Decides.{nat_tests}
use lib.Count.{ones, ones_in}
use Rattle.line.specs.Code.{decoded}
use Rattle.line.specs.Tables.{Good, ToldByT, standard_rows, first, second, look_up, found_from}
use Rattle.line.proofs.Computed.{below, at_below}

-- the first row with a first word
abbrev row_of : ℕ → List (ℕ × ℕ) → ℕ
row_of word [] = 0
row_of word (r ∷ rs) = elim (eqb word r.0) [ true ↦ 0 | false ↦ row_of word rs + 1 ]

abbrev pub right : List (ℕ × ℕ) → ℕ → Bool
right rows k =
    eqb (row_of (first rows k) rows) k && leb 3 (ones (first rows k)) && eqb (first rows k + second rows k) 31

pub good : (rows : List (ℕ × ℕ)) → length rows ≡ 16 → below (right rows) 16 ≡ true → Good rows
good rows e t =
    let test : (k : ℕ) → k < 16 → right rows k ≡ true = at_below (right rows) 16 t in
    let back : (k : ℕ) → k < 16 → row_of (first rows k) rows ≡ k = λ k h. let p = test k h in grind (arith, nat_tests) in
    record {
      size = e;
      apart = λ j k hj hk p. sym (back j hj) ∙ ap (λ (x : ℕ). row_of x rows) p ∙ back k hk;
      many = λ k h. let p = test k h in grind (arith, nat_tests);
      complement = λ k h. let p = test k h in grind (arith, nat_tests);
    }

abbrev is : Option ℕ → ℕ → Bool
is None k = false
is (Some j) k = eqb j k

is_some : (o : Option ℕ) (k : ℕ) → is o k ≡ true → o ≡ Some k
is_some None k t = absurd (clash t)
is_some (Some j) k t = ap Some (eqb-true j k t)

pub told : (rows : List (ℕ × ℕ)) → below (λ w. is (look_up rows w) (decoded w)) 32 ≡ true → ToldByT rows
told rows t w h = is_some (look_up rows w) (decoded w) (at_below (λ w. is (look_up rows w) (decoded w)) 32 t w h)

pub standard_good : Good standard_rows
unfolding standard_rows ones ones_in
standard_good = good standard_rows refl refl

pub standard_told : ToldByT standard_rows
unfolding standard_rows found_from
standard_told = told standard_rows refl
