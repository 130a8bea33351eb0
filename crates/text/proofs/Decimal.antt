-- Reading a number digit by digit. Assumes nothing.
use Rattle.std.proofs.Common.{◌≡◌, ℕ, ◌+◌, ◌-◌, ◌*◌, ◌/◌, ◌%◌, ◌^◌, ◌<◌, ◌≤◌, Bool, true, false, cond, eqb, leb, option_and_then, List, [], ◌∷◌, ◌++◌, length, get_or, take, drop, pos, neg_ℤ, ◌-ℤ◌, FitsSigned, ℤ, Result, Ok, Err, Some, None, decimal, Option, sym, refl, ap, ◌∙◌, ⊎_elim, arith}
use Rattle.std.specs.Option.{option_map, SomeIff}
use Rattle.std.specs.Result.{OkIff, result_ok}
use Rattle.std.proofs.lemmas.Option.{none-some, same_Some}
use Rattle.std.proofs.lemmas.Int.{ints}
use Rattle.std.specs.Int.{w32}
use Rattle.std.proofs.lemmas.Fmt.{decimal_by_steps, decimal_nonempty}
use Rattle.std.proofs.lemmas.List.{drop_more, drop_all, take_rest}
use Rattle.std.proofs.lemmas.Bool.{cond_both, cond-true, cond-false, lt-leb, le-leb, leb-false, eq-eqb, ne_eqb, cases_lt, and_from, cases_Bool}
use Rattle.std.proofs.lemmas.Bool.Decides.{nat_tests}
use Rattle.text.specs.Numbers.{is_digit, digit_of, read_on, decimal_value, within, at_most, number_of, signed_of, NumbersComeBack}

too_large : (limit n : ℕ) (cs : List ℕ) → limit < n → at_most limit (read_on n cs) ≡ None
too_large limit n [] h = cond-false (leb n limit) _ _ (lt-leb n limit h)
too_large limit n (c ∷ cs) h =
    cond_both (is_digit c) _ _ (λ o. at_most limit o ≡ None) (λ e. too_large limit (n * 10 + (c - 48)) cs (omega arith)) (λ e. refl)

-- reading on from a number past the limit is as good as stopping there
kept : (limit m : ℕ) (cs : List ℕ) → at_most limit (read_on m cs) ≡ option_and_then (λ k. at_most limit (read_on k cs)) (within limit m)
kept limit m cs =
    cond_both (leb m limit) _ _ (λ o. at_most limit (read_on m cs) ≡ option_and_then (λ k. at_most limit (read_on k cs)) o) (λ t. refl) (λ f. too_large limit m cs (leb-false m limit f))

by_test : (b : Bool) (limit n d : ℕ) (cs : List ℕ) → at_most limit (cond b (read_on (n * 10 + d) cs) None) ≡ option_and_then (λ k. at_most limit (read_on k cs)) (option_and_then (λ e. within limit (n * 10 + e)) (cond b (Some d) None))
by_test true limit n d cs = kept limit (n * 10 + d) cs
by_test false limit n d cs = refl

-- what the digit at place i of the word makes of the number so far, and what is read from there on
module _ (limit n : ℕ) (word : List ℕ) (i : ℕ) (h : i < length word) where
  abbrev grown : Option ℕ
  grown = option_and_then (λ d. within limit (n * 10 + d)) (digit_of (get_or word i 0))

  by_one : at_most limit (read_on n (drop i word)) ≡ option_and_then (λ k. at_most limit (read_on k (drop (i + 1) word))) grown
  by_one = ap (λ l. at_most limit (read_on n l)) (drop_more word i 0 h) ∙ by_test (is_digit (get_or word i 0)) limit n (get_or word i 0 - 48) (drop (i + 1) word)

  pub stops : None ≡ grown → None ≡ at_most limit (read_on n (drop i word))
  stops e = ap (option_and_then (λ k. at_most limit (read_on k (drop (i + 1) word)))) e ∙ sym by_one

  pub goes_on : (m : ℕ) → Some m ≡ grown → at_most limit (read_on m (drop (i + 1) word)) ≡ at_most limit (read_on n (drop i word))
  goes_on m e = ap (option_and_then (λ k. at_most limit (read_on k (drop (i + 1) word)))) e ∙ sym by_one

-- at the end of the word
pub all_read : (limit n : ℕ) (word : List ℕ) (i : ℕ) → length word ≤ i → n ≤ limit → at_most limit (read_on n (drop i word)) ≡ Some n
all_read limit n word i h l = ap (λ cs. at_most limit (read_on n cs)) (drop_all i word h) ∙ cond-true (leb n limit) _ _ (le-leb n limit l)

pub no_number : (limit : ℕ) (word : List ℕ) → length word ≡ 0 → None ≡ number_of limit word
unfolding number_of
no_number limit [] e = refl
no_number limit (c ∷ cs) e = absurd (omega arith)

pub is_number : (limit : ℕ) (word : List ℕ) → (length word ≡ 0 → ⊥) → at_most limit (read_on 0 word) ≡ number_of limit word
unfolding number_of
is_number limit [] e = absurd (e refl)
is_number limit (c ∷ cs) e = refl

-- a lower limit on a number that was read
within_both : (low high n : ℕ) → low ≤ high → option_and_then (within low) (within high n) ≡ within low n
within_both low high n h =
    cond_both (leb n high) _ _ (λ o. option_and_then (within low) o ≡ within low n) (λ t. refl) (λ f. sym (cond-false (leb n low) _ _ (lt-leb n low (omega (arith, leb-false n high f)))))

lowered : (low high : ℕ) (o : Option ℕ) → low ≤ high → option_and_then (within low) (at_most high o) ≡ at_most low o
lowered low high None h = refl
lowered low high (Some n) h = within_both low high n h

number_within : (low high : ℕ) (word : List ℕ) → low ≤ high → option_and_then (within low) (number_of high word) ≡ number_of low word
unfolding number_of
number_within low high word h = lowered low high (decimal_value word) h

-- what `try_from` and `checked_sub_unsigned` make of a number
fits_u16 : {E : Type 0} (n : ℕ) (r : Result ℕ E) → OkIff r (n < 2 ^ 16) n → result_ok r ≡ within 65535 n
fits_u16 n (Ok m) h = grind (arith, nat_tests)
fits_u16 n (Err e) h = grind (arith, nat_tests)

fits_i32 : {E : Type 0} (n : ℕ) (r : Result ℤ E) → OkIff r (FitsSigned w32 (pos n)) (pos n) → result_ok r ≡ option_map (λ m. pos m) (within (2 ^ 31 - 1) n)
fits_i32 n (Ok z) h = ap (λ (x : ℤ). Some x) h.1 ∙ sym (ap (option_map (λ m. pos m)) (cond-true (leb n (2 ^ 31 - 1)) _ _ (le-leb n (2 ^ 31 - 1) (let fits = h.0 in omega (arith, ints)))))
fits_i32 n (Err e) h =
    sym (ap (option_map (λ m. pos m)) (cond-false (leb n (2 ^ 31 - 1)) _ _ (lt-leb n (2 ^ 31 - 1) (⊎_elim (λ l. l) (λ l. absurd (h (omega (arith, ints)))) (cases_lt (2 ^ 31 - 1) n)))))

minus_fits : (n : ℕ) (o : Option ℤ) → SomeIff o (FitsSigned w32 (pos 0 -ℤ pos n)) (pos 0 -ℤ pos n) → o ≡ option_map (λ m. neg_ℤ (pos m)) (within (2 ^ 31) n)
minus_fits n (Some z) h = ap (λ (x : ℤ). Some x) (h.1 ∙ omega (arith, ints)) ∙ sym (ap (option_map (λ m. neg_ℤ (pos m))) (cond-true (leb n (2 ^ 31)) _ _ (le-leb n (2 ^ 31) (let fits = h.0 in omega (arith, ints)))))
minus_fits n None h =
    sym (ap (option_map (λ m. neg_ℤ (pos m))) (cond-false (leb n (2 ^ 31)) _ _ (lt-leb n (2 ^ 31) (⊎_elim (λ l. l) (λ l. absurd (h (omega (arith, ints)))) (cases_lt (2 ^ 31) n)))))

same_u32 : {E : Type 0} (n m : ℕ) (r : Result ℕ E) → OkIff r (n < 2 ^ 32) n → Some m ≡ result_ok r → m ≡ n
same_u32 n m (Ok k) h e = same_Some m k e ∙ h.1
same_u32 n m (Err x) h e = absurd (none-some m (sym e))

fits_minus : {E : Type 0} (n m : ℕ) (r : Result ℕ E) (o : Option ℤ) → OkIff r (n < 2 ^ 32) n → Some m ≡ result_ok r → SomeIff o (FitsSigned w32 (pos 0 -ℤ pos m)) (pos 0 -ℤ pos m) → o ≡ option_map (λ k. neg_ℤ (pos k)) (within (2 ^ 31) n)
fits_minus n m r o h e k = minus_fits m o k ∙ ap (λ i. option_map (λ j. neg_ℤ (pos j)) (within (2 ^ 31) i)) (same_u32 n m r h e)

past_u32 : {E : Type 0} (n : ℕ) (r : Result ℕ E) → OkIff r (n < 2 ^ 32) n → result_ok r ≡ None → within (2 ^ 31) n ≡ None
past_u32 n (Ok m) h e = absurd (none-some m (sym e))
past_u32 n (Err x) h e = cond-false (leb n (2 ^ 31)) _ _ (lt-leb n (2 ^ 31) (omega arith))

-- a number of at most 16 bits
pub count_none : (word : List ℕ) → None ≡ number_of (2 ^ 64 - 1) word → None ≡ number_of 65535 word
count_none word e = ap (option_and_then (within 65535)) e ∙ number_within 65535 (2 ^ 64 - 1) word (omega arith)

pub count_some : {E : Type 0} (word : List ℕ) (n : ℕ) (r : Result ℕ E) → Some n ≡ number_of (2 ^ 64 - 1) word → OkIff r (n < 2 ^ 16) n → result_ok r ≡ number_of 65535 word
count_some word n r e h = fits_u16 n r h ∙ ap (option_and_then (within 65535)) e ∙ number_within 65535 (2 ^ 64 - 1) word (omega arith)

-- a number behind a minus sign, whose digits are what follows in the word
module _ (word : List ℕ) (minus : get_or word 0 0 ≡ 45) where
  behind : (o : Option ℕ) → o ≡ number_of (2 ^ 64 - 1) (take (length word - 1) (drop 1 word)) → option_map (λ n. neg_ℤ (pos n)) (option_and_then (within (2 ^ 31)) o) ≡ signed_of word
  behind o e =
      ap (option_map (λ n. neg_ℤ (pos n))) (ap (option_and_then (within (2 ^ 31))) (e ∙ ap (number_of (2 ^ 64 - 1)) (take_rest word 1)) ∙ number_within (2 ^ 31) (2 ^ 64 - 1) (drop 1 word) (omega arith))
      ∙ sym (cond-true (eqb (get_or word 0 0) 45) _ _ (eq-eqb _ 45 minus))

  pub minus_none : None ≡ number_of (2 ^ 64 - 1) (take (length word - 1) (drop 1 word)) → None ≡ signed_of word
  minus_none e = behind None e

  module _ {E : Type 0} (n : ℕ) (r : Result ℕ E) (e : Some n ≡ number_of (2 ^ 64 - 1) (take (length word - 1) (drop 1 word))) (h : OkIff r (n < 2 ^ 32) n) where
    pub minus_past : None ≡ result_ok r → None ≡ signed_of word
    minus_past k = sym (ap (option_map (λ m. neg_ℤ (pos m))) (past_u32 n r h (sym k))) ∙ behind (Some n) e

    pub minus_some : (m : ℕ) (o : Option ℤ) → Some m ≡ result_ok r → SomeIff o (FitsSigned w32 (pos 0 -ℤ pos m)) (pos 0 -ℤ pos m) → o ≡ signed_of word
    minus_some m o k f = fits_minus n m r o h k f ∙ behind (Some n) e

-- a number with no sign
module _ (word : List ℕ) (other : get_or word 0 0 ≡ 45 → ⊥) where
  alone : (o : Option ℕ) → o ≡ number_of (2 ^ 64 - 1) word → option_map (λ n. pos n) (option_and_then (within (2 ^ 31 - 1)) o) ≡ signed_of word
  alone o e =
      ap (option_map (λ n. pos n)) (ap (option_and_then (within (2 ^ 31 - 1))) e ∙ number_within (2 ^ 31 - 1) (2 ^ 64 - 1) word (omega arith))
      ∙ sym (cond-false (eqb (get_or word 0 0) 45) _ _ (ne_eqb _ 45 other))

  pub alone_none : None ≡ number_of (2 ^ 64 - 1) word → None ≡ signed_of word
  alone_none e = alone None e

  pub alone_some : {E : Type 0} (n : ℕ) (r : Result ℤ E) → Some n ≡ number_of (2 ^ 64 - 1) word → OkIff r (FitsSigned w32 (pos n)) (pos n) → result_ok r ≡ signed_of word
  alone_some n r e h = fits_i32 n r h ∙ alone (Some n) e

-- one more digit behind a number that was read
read_push : (m k : ℕ) (ds : List ℕ) (c : ℕ) → is_digit c ≡ true → read_on m ds ≡ Some k → read_on m (ds ++ c ∷ []) ≡ Some (k * 10 + (c - 48))
read_push m k [] c t e =
    let same : m ≡ k = grind arith in
    cond-true (is_digit c) _ _ t ∙ ap (λ n. Some (n * 10 + (c - 48))) same
read_push m k (d ∷ ds) c t e =
    ⊎_elim (λ y. cond-true _ _ _ y ∙ read_push (m * 10 + (d - 48)) k ds c t (sym (cond-true _ _ _ y) ∙ e))
    (λ n. let no : ◌≡◌ {A = Option ℕ} None (Some k) = sym (cond-false _ _ _ n) ∙ e in grind arith)
    (cases_Bool (is_digit d))

digit_true : (d : ℕ) → d < 10 → is_digit (48 + d) ≡ true
digit_true d h = and_from _ _ (le-leb 48 (48 + d) (omega arith)) (le-leb (48 + d) 57 (omega arith))

read_decimal : (n : ℕ) → n < 2 ^ 64 → read_on 0 (decimal n) ≡ Some n
read_decimal =
    decimal_by_steps (λ n ds. read_on 0 ds ≡ Some n)
    (λ n h. cond-true _ _ _ (digit_true n h) ∙ ap (λ (k : ℕ). Some k) (omega arith))
    (λ n ds h e. read_push 0 (n / 10) ds (48 + n % 10) (digit_true (n % 10) (omega arith)) e ∙ ap (λ (k : ℕ). Some k) (omega arith))

pub numbers_back : NumbersComeBack
numbers_back n h =
    sym (is_number (2 ^ 64 - 1) (decimal n) (λ e. omega (arith, decimal_nonempty n h)))
    ∙ ap (at_most (2 ^ 64 - 1)) (read_decimal n h)
    ∙ cond-true (leb n (2 ^ 64 - 1)) _ _ (le-leb n (2 ^ 64 - 1) (omega arith))
