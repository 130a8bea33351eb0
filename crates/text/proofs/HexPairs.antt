-- Bytes from pairs of digits, pair by pair. Assumes nothing.
use Rattle.std.proofs.Common.{◌≡◌, ℕ, zero, suc, ◌+◌, ◌*◌, ◌/◌, ◌%◌, ◌<◌, ◌≤◌, List, [], ◌∷◌, ◌++◌, length, eqb, get_or, take, drop, length-drop, Some, None, Option, sym, refl, ap, ◌∙◌, append_assoc, append-nil, arith}
use Rattle.std.specs.Bool.{then_some}
use Rattle.std.specs.Option.{option_map}
use Rattle.std.specs.Simd.{first_chunks}
use Rattle.std.proofs.lemmas.List.{drop-drop}
use Rattle.std.specs.Char.{digit_value}
use Rattle.std.proofs.lemmas.Bool.Decides.{nat_tests}
use Rattle.text.specs.Hex.{nibble_of, both, byte_of, in_front, pairs_of}

-- what `to_digit(16)` says of a byte
is_nibble : (c d : ℕ) → digit_value c < 16 → d ≡ digit_value c → Some d ≡ nibble_of c
is_nibble c d h e = grind (arith, nat_tests)

pub two_nibbles : (a b h l : ℕ) → digit_value a < 16 → h ≡ digit_value a → digit_value b < 16 → l ≡ digit_value b → Some (h * 16 + l) ≡ byte_of a b
two_nibbles a b h l x p y q = λ i. both 16 (is_nibble a h x p i) (is_nibble b l y q i)

-- where a pair stands in the word
pair_at : (k i : ℕ) (xs : List ℕ) → i < k → get_or (first_chunks 2 k xs) i [] ≡ take 2 (drop (i * 2) xs)
pair_at zero i xs h = absurd (omega arith)
pair_at (suc k) zero xs h = refl
pair_at (suc k) (suc i) xs h =
    let n : 2 + i * 2 ≡ suc i * 2 = omega arith in
    pair_at k i (drop 2 xs) (omega arith) ∙ ap (take 2) (drop-drop (i * 2) 2 xs ∙ ap (λ (j : ℕ). drop j xs) n)

by_pair : (rest : List ℕ) → 2 ≤ length rest → pairs_of rest ≡ in_front (byte_of (get_or (take 2 rest) 0 0) (get_or (take 2 rest) 1 0)) (pairs_of (drop 2 rest))
unfolding pairs_of
by_pair [] h = absurd (omega arith)
by_pair (a ∷ []) h = absurd (omega arith)
by_pair (a ∷ b ∷ cs) h = refl

abbrev after : List ℕ → Option (List ℕ) → Option (List ℕ)
after done o = option_map (λ bs. done ++ bs) o

none_before : (o : Option (List ℕ)) → after [] o ≡ o
none_before None = refl
none_before (Some bs) = refl

after_more : (done : List ℕ) (b : ℕ) (o : Option (List ℕ)) → after (done ++ b ∷ []) o ≡ after done (in_front (Some b) o)
after_more done b None = refl
after_more done b (Some bs) = ap (λ (l : List ℕ). Some l) (append_assoc done (b ∷ []) bs)

-- before the first pair
pub after_nothing : (word done : List ℕ) → done ≡ [] → after done (pairs_of word) ≡ pairs_of word
after_nothing word done e = ap (λ l. after l (pairs_of word)) e ∙ none_before (pairs_of word)

module _ (done word : List ℕ) (ps : List (List ℕ)) (i : ℕ) (are : ps ≡ first_chunks 2 (length word / 2) word) (many : length ps ≡ length word / 2) (h : i < length ps) (inv : after done (pairs_of (drop (i * 2) word)) ≡ pairs_of word) where
  abbrev pair : List ℕ
  pair = get_or ps i []

  is_pair : pair ≡ take 2 (drop (i * 2) word)
  is_pair = ap (λ (l : List (List ℕ)). get_or l i []) are ∙ pair_at (length word / 2) i word (omega arith)

  next : pairs_of (drop (i * 2) word) ≡ in_front (byte_of (get_or pair 0 0) (get_or pair 1 0)) (pairs_of (drop ((i + 1) * 2) word))
  next =
      let n : i * 2 + 2 ≡ (i + 1) * 2 = omega arith in
      by_pair (drop (i * 2) word) (omega (arith, length-drop (i * 2) word))
      ∙ ap (λ (p : List ℕ). in_front (byte_of (get_or p 0 0) (get_or p 1 0)) (pairs_of (drop 2 (drop (i * 2) word)))) (sym is_pair)
      ∙ ap (λ (l : List ℕ). in_front (byte_of (get_or pair 0 0) (get_or pair 1 0)) (pairs_of l)) (drop-drop 2 (i * 2) word ∙ ap (λ (j : ℕ). drop j word) n)

  -- one more pair was read
  pub pair_more : (b : ℕ) (more : List ℕ) → Some b ≡ byte_of (get_or pair 0 0) (get_or pair 1 0) → more ≡ done ++ b ∷ [] → after more (pairs_of (drop ((i + 1) * 2) word)) ≡ pairs_of word
  pair_more b more e m =
      ap (λ l. after l (pairs_of (drop ((i + 1) * 2) word))) m
      ∙ after_more done b (pairs_of (drop ((i + 1) * 2) word))
      ∙ ap (λ o. after done (in_front o (pairs_of (drop ((i + 1) * 2) word)))) e
      ∙ ap (after done) (sym next)
      ∙ inv

  pub no_pair : None ≡ byte_of (get_or pair 0 0) (get_or pair 1 0) → None ≡ pairs_of word
  no_pair e = ap (λ o. after done (in_front o (pairs_of (drop ((i + 1) * 2) word)))) e ∙ ap (after done) (sym next) ∙ inv

over_all : {V : Type 0} (items : V → List ℕ) (v : V) (over : List ℕ) (all : Option (List ℕ)) → after (items v) (pairs_of over) ≡ all → length over < 2 → option_map items (then_some (eqb (length over) 0) v) ≡ all
unfolding pairs_of
over_all items v [] all inv h = ap (λ (l : List ℕ). Some l) (sym (append-nil (items v))) ∙ inv
over_all items v (a ∷ []) all inv h = inv
over_all items v (a ∷ b ∷ over) all inv h = absurd (omega arith)

-- at the end of the word no digit may be over
pub all_pairs :
    {V : Type 0} (items : V → List ℕ) (v : V) (word over : List ℕ) (i : ℕ) → after (items v) (pairs_of (drop (i * 2) word)) ≡ pairs_of word
    → length word / 2 ≤ i → i ≤ length word / 2 → over ≡ drop (length word / 2 * 2) word → length over ≡ length word % 2
    → option_map items (then_some (eqb (length over) 0) v) ≡ pairs_of word
all_pairs items v word over i inv low high is size =
    let n : length word / 2 * 2 ≡ i * 2 = omega arith in
    over_all items v over (pairs_of word) (ap (λ (l : List ℕ). after (items v) (pairs_of l)) (is ∙ ap (λ (j : ℕ). drop j word) n) ∙ inv) (omega arith)
