-- What a good table does: its words can be looked up, and its counts stay in range.
use Rattle.std.proofs.Common.{◌≡◌, ℕ, zero, suc, ◌+◌, ◌-◌, ◌<◌, ◌≤◌, Bool, true, false, cond, eqb, ◌≢◌, ◌⊎◌, List, [], ◌∷◌, length, ℤ, pos, negsuc, ◌≤ℤ◌, Some, sym, refl, ap, ◌∙◌, inl, inr, arith, eqb-true, le-ltb, eq-eqb, ne_eqb}
use lib.Count.{ones, ones_in, ones-le}
use borrow.Author.Differences.{ints}
use Rattle.line.specs.Code.{word_for, count_after, in_range, decoded}
use Rattle.line.specs.Tables.{Good, ToldByT, standard_rows, first, second, look_up, found_from}
use Rattle.line.proofs.Computed.{below, at_below}
use Rattle.line.proofs.Rows.{standard_good, standard_told}

pub few_ones : (word : ℕ) → word < 256 → ones word ≤ 8
few_ones word h = ones-le 8 word h

five : ℕ → Bool
five a = eqb (ones a + ones (31 - a)) 5

all_five : below five 32 ≡ true
unfolding five ones ones_in
all_five = refl

-- the ones of a word and of its complement are five together
ones_complement : (a b : ℕ) → a + b ≡ 31 → ones a + ones b ≡ 5
unfolding five
ones_complement a b e =
    let d : 31 - a ≡ b = omega arith in
    ap (λ (x : ℕ). ones a + ones x) (sym d) ∙ eqb-true (ones a + ones (31 - a)) 5 (at_below five 32 all_five a (omega arith))

-- a word that stands in row i, and in none before, is found there
found :
    (rows : List (ℕ × ℕ)) (j i word : ℕ) → i < length rows → (word ≡ first rows i) ⊎ (word ≡ second rows i)
    → ((k : ℕ) → k < i → (word ≢ first rows k) × (word ≢ second rows k)) → found_from j rows word ≡ Some (j + i)
unfolding found_from
found [] j i word h here before = absurd (omega arith)
found (r ∷ rows) j zero word h here before =
    let z : j ≡ j + 0 = omega arith in
    elim here [
      | inl e ↦ rw (eq-eqb word r.0 e) (ap Some z)
      | inr e ↦
          elim (eqb word r.0)
          as (λ b. cond b (Some j) (cond (eqb word r.1) (Some j) (found_from (j + 1) rows word)) ≡ Some (j + 0))
          [ true ↦ ap Some z | false ↦ rw (eq-eqb word r.1 e) (ap Some z) ]
    ]
found (r ∷ rows) j (suc i) word h here before =
    let first-row = before 0 (omega arith) in
    let more : found_from (j + 1) rows word ≡ Some (j + 1 + i) =
    found rows (j + 1) i word (omega arith) here (λ k l. before (suc k) (omega arith)) in
    rw (ne_eqb word r.0 first-row.0, ne_eqb word r.1 first-row.1) (more ∙ ap Some (omega arith))

-- a word stands in one row
own :
    (rows : List (ℕ × ℕ)) → Good rows → (code k word : ℕ) → code < 16 → k < 16
    → (word ≡ first rows code) ⊎ (word ≡ second rows code) → (word ≡ first rows k) ⊎ (word ≡ second rows k) → code ≡ k
own rows g code k word hc hk (inl e) (inl f) = g.apart code k hc hk (sym e ∙ f)
own rows g code k word hc hk (inl e) (inr f) =
    absurd
    (omega (
      arith,
      g.many code hc,
      g.many k hk,
      ones_complement (first rows k) (second rows k) (g.complement k hk),
      ap ones (sym e ∙ f),
    ))
own rows g code k word hc hk (inr e) (inl f) =
    absurd
    (omega (
      arith,
      g.many code hc,
      g.many k hk,
      ones_complement (first rows code) (second rows code) (g.complement code hc),
      ap ones (sym e ∙ f),
    ))
own rows g code k word hc hk (inr e) (inr f) =
    g.apart code k hc hk (omega (arith, g.complement code hc, g.complement k hk, sym e ∙ f))

looked_up :
    (rows : List (ℕ × ℕ)) → Good rows → (code word : ℕ) → code < 16
    → (word ≡ first rows code) ⊎ (word ≡ second rows code) → look_up rows word ≡ Some code
looked_up rows g code word h here =
    found rows 0 code word (omega (arith, g.size)) here
    (λ k l. (
      λ e. absurd (omega (arith, own rows g code k word h (omega arith) here (inl e))),
      λ e. absurd (omega (arith, own rows g code k word h (omega arith) here (inr e))),
    ))
    ∙ ap Some (omega arith)

word_pos : (rows : List (ℕ × ℕ)) (code n : ℕ) → word_for rows code (pos n) ≡ second rows code
word_pos rows code n = ap (λ (b : Bool). cond b (first rows code) (second rows code)) (le-ltb n 0 (omega arith))

word_in_row : (rows : List (ℕ × ℕ)) (code : ℕ) (count : ℤ) → (word_for rows code count ≡ first rows code) ⊎ (word_for rows code count ≡ second rows code)
word_in_row rows code (pos n) = inr (word_pos rows code n)
word_in_row rows code (negsuc n) = inl refl

pub word_lt : (rows : List (ℕ × ℕ)) → Good rows → (code : ℕ) (count : ℤ) → code < 16 → word_for rows code count < 32
word_lt rows g code count h =
    elim (word_in_row rows code count) [ inl e ↦ omega (arith, g.complement code h) | inr e ↦ omega (arith, g.complement code h) ]

pub known :
    (rows : List (ℕ × ℕ)) → Good rows → (code : ℕ) (count : ℤ) → code < 16 → look_up rows (word_for rows code count) ≡ Some code
known rows g code count h = looked_up rows g code (word_for rows code count) h (word_in_row rows code count)

pub stays :
    (rows : List (ℕ × ℕ)) → Good rows → (code : ℕ) (count : ℤ) → code < 16 → negsuc 4 ≤ℤ count → count ≤ℤ pos 4
    → (negsuc 4 ≤ℤ count_after count (word_for rows code count)) × (count_after count (word_for rows code count) ≤ℤ pos 4)
stays rows g code (pos n) h l u =
    let m = g.many code h in
    let s = ones_complement (first rows code) (second rows code) (g.complement code h) in
    let w = ap ones (word_pos rows code n) in
    (omega (arith, ints), omega (arith, ints))
stays rows g code (negsuc n) h l u =
    let m = g.many code h in
    let s = ones_complement (first rows code) (second rows code) (g.complement code h) in
    (omega (arith, ints), omega (arith, ints))

-- where the middle bit tells what a look_up would, decoding undoes coding
pub undone :
    (rows : List (ℕ × ℕ)) → Good rows → ToldByT rows → (code : ℕ) (count : ℤ) → code < 16
    → decoded (word_for rows code count) ≡ code
undone rows g t code count h =
    let e : Some (decoded (word_for rows code count)) ≡ Some code =
    sym (t (word_for rows code count) (word_lt rows g code count h)) ∙ known rows g code count h in
    cc

-- what is coded by the standard's table is decoded again
pub standard_small : (code : ℕ) (count : ℤ) → code < 16 → word_for standard_rows code count < 32
standard_small code count h = word_lt standard_rows standard_good code count h

pub standard_undone : (code : ℕ) (count : ℤ) → code < 16 → decoded (word_for standard_rows code count) ≡ code
standard_undone code count h = undone standard_rows standard_good standard_told code count h

pub ruleset undoing = (standard_small, standard_undone)

pub range_true : (count : ℤ) → in_range count ≡ true → (negsuc 4 ≤ℤ count) × (count ≤ℤ pos 4)
range_true count e = (grind (arith, ints), grind (arith, ints))

pub ruleset moves = (ints, few_ones, range_true)
