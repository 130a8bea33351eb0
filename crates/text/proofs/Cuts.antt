-- One step of a cut into pieces, and what the pieces are. Assumes nothing.
use Rattle.std.proofs.Common.{◌≡◌, ℕ, ◌+◌, ◌<◌, ◌≤◌, Bool, true, false, not, List, [], ◌∷◌, ◌++◌, length, get_or, drop, filter, sym, refl, ap, ◌∙◌, subst, append_assoc, append-nil, le_refl, arith}
use Rattle.std.specs.List.{between, join_with_byte, flat_map, AllByRecursion}
use Rattle.std.proofs.lemmas.List.{drop_more, drop_all}
use Rattle.std.proofs.lemmas.List.Edits.{between_more, between_none, length-between}
use Rattle.std.proofs.ByRecursion.{All-push, all_kept_by, kept_by_passes}
use Rattle.std.proofs.lemmas.Slice.{between_to_end}
use Rattle.std.proofs.lemmas.Bool.{cond-true, cond-false, cond_both, eqb-true, not_from_true, not_from_false}
use Rattle.text.specs.Pieces.{pieces_after, some, lines_of, words_of, ends_line, separates, FreeOf, CutIntoLines, CutIntoWords}

-- the pieces of s from place i on, where the first began at `start`
abbrev pub rest_of : (ℕ → Bool) → List ℕ → ℕ → ℕ → List (List ℕ)
rest_of test s start i = pieces_after test (between start i s) (drop i s)

module _ (test : ℕ → Bool) (s : List ℕ) (start i : ℕ) where
  pub at_end : i < length s → test (get_or s i 0) ≡ true → rest_of test s start i ≡ between start i s ∷ rest_of test s (i + 1) (i + 1)
  at_end h t =
      ap (pieces_after test (between start i s)) (drop_more s i 0 h) ∙ cond-true _ _ _ t ∙ ap (λ (p : List ℕ). between start i s ∷ pieces_after test p (drop (i + 1) s)) (sym (between_none s (i + 1)))

  pub inside : start ≤ i → i < length s → test (get_or s i 0) ≡ false → rest_of test s start i ≡ rest_of test s start (i + 1)
  inside b h t =
      ap (pieces_after test (between start i s)) (drop_more s i 0 h) ∙ cond-false _ _ _ t ∙ ap (λ (p : List ℕ). pieces_after test p (drop (i + 1) s)) (sym (between_more s start i 0 b h))

  pub at_last : length s ≤ i → rest_of test s start i ≡ between start (length s) s ∷ []
  at_last h = ap (pieces_after test (between start i s)) (drop_all i s h) ∙ ap (λ (p : List ℕ). p ∷ []) (between_to_end s start i h ∙ sym (between_to_end s start (length s) (le_refl (length s))))

-- one more piece was found, and the next begins behind the byte at i
pub cut_here : (test : ℕ → Bool) (s : List ℕ) (start i : ℕ) (done more all : List (List ℕ)) → i < length s → test (get_or s i 0) ≡ true → more ≡ done ++ between start i s ∷ [] → done ++ rest_of test s start i ≡ all → more ++ rest_of test s (i + 1) (i + 1) ≡ all
cut_here test s start i done more all h t e r =
    ap (λ (l : List (List ℕ)). l ++ rest_of test s (i + 1) (i + 1)) e ∙ append_assoc done (between start i s ∷ []) (rest_of test s (i + 1) (i + 1)) ∙ ap (λ (l : List (List ℕ)). done ++ l) (sym (at_end test s start i h t)) ∙ r

pub all_free : (test : ℕ → Bool) (piece bs : List ℕ) → FreeOf test piece → AllByRecursion (FreeOf test) (pieces_after test piece bs)
all_free test piece [] h = (h, tt)
all_free test piece (b ∷ bs) h =
    cond_both (test b) _ _ (AllByRecursion (FreeOf test)) (λ e. (h, all_free test [] bs tt)) (λ e. all_free test (piece ++ b ∷ []) bs (All-push (λ c. test c ≡ false) piece b h e))

-- a cut gives at least one piece
rejoined_cons : (test : ℕ → Bool) (x piece bs : List ℕ) → join_with_byte 10 (x ∷ pieces_after test piece bs) ≡ x ++ 10 ∷ join_with_byte 10 (pieces_after test piece bs)
rejoined_cons test x piece [] = refl
rejoined_cons test x piece (b ∷ bs) =
    cond_both (test b) _ _ (λ l. join_with_byte 10 (x ∷ l) ≡ x ++ 10 ∷ join_with_byte 10 l) (λ e. refl) (λ e. rejoined_cons test x (piece ++ b ∷ []) bs)

rejoined_pieces : (piece bs : List ℕ) → join_with_byte 10 (pieces_after ends_line piece bs) ≡ piece ++ bs
rejoined_pieces piece [] = sym (append-nil piece)
rejoined_pieces piece (b ∷ bs) =
    cond_both (ends_line b) _ _ (λ l. join_with_byte 10 l ≡ piece ++ b ∷ bs)
    (λ e. rejoined_cons ends_line piece [] bs ∙ ap (λ l. piece ++ 10 ∷ l) (rejoined_pieces [] bs) ∙ ap (λ x. piece ++ x ∷ bs) (sym (eqb-true b 10 e)))
    (λ e. rejoined_pieces (piece ++ b ∷ []) bs ∙ append_assoc piece (b ∷ []) bs)

pub are_lines : (sheet : List ℕ) (ls : List (List ℕ)) → ls ≡ lines_of sheet → CutIntoLines sheet ls
unfolding lines_of
are_lines sheet ls e = record {
  are = e;
  whole = ap (join_with_byte 10) e ∙ rejoined_pieces [] sheet;
  each = subst (AllByRecursion (FreeOf ends_line)) (sym e) (all_free ends_line [] sheet tt);
}

-- a word that is kept, and an empty piece that is not
kept_yes : (rest : List (List ℕ)) (p : List ℕ) (later : List (List ℕ)) → rest ≡ p ∷ later → some p ≡ true → filter some rest ≡ p ∷ filter some later
kept_yes rest p later e t = ap (filter some) e ∙ cond-true _ _ _ t

kept_no : (rest : List (List ℕ)) (p : List ℕ) (later : List (List ℕ)) → rest ≡ p ∷ later → some p ≡ false → filter some rest ≡ filter some later
kept_no rest p later e t = ap (filter some) e ∙ cond-false _ _ _ t

some_from_length : (xs : List ℕ) → 0 < length xs → some xs ≡ true
some_from_length [] h = absurd (omega arith)
some_from_length (x ∷ xs) h = refl

some_between : (s : List ℕ) (start i : ℕ) → start < i → i ≤ length s → some (between start i s) ≡ true
some_between s start i h l = some_from_length _ (omega (arith, length-between s start i l))

none_between : (s : List ℕ) (start i : ℕ) → start ≤ i → i ≤ start → some (between start i s) ≡ false
none_between s start i b l = let e : i ≡ start = omega arith in rw (e, between_none s start)

module _ (s : List ℕ) (start i : ℕ) (done all : List (List ℕ)) where
  pub word_here : (more : List (List ℕ)) → i < length s → separates (get_or s i 0) ≡ true → start < i → more ≡ done ++ between start i s ∷ [] → done ++ filter some (rest_of separates s start i) ≡ all → more ++ filter some (rest_of separates s (i + 1) (i + 1)) ≡ all
  word_here more h t l e r =
      ap (λ (w : List (List ℕ)). w ++ filter some (rest_of separates s (i + 1) (i + 1))) e
      ∙ append_assoc done (between start i s ∷ []) (filter some (rest_of separates s (i + 1) (i + 1)))
      ∙ ap (λ (w : List (List ℕ)). done ++ w) (sym (kept_yes _ _ _ (at_end separates s start i h t) (some_between s start i l (omega arith))))
      ∙ r

  pub no_word_here : i < length s → separates (get_or s i 0) ≡ true → start ≤ i → i ≤ start → done ++ filter some (rest_of separates s start i) ≡ all → done ++ filter some (rest_of separates s (i + 1) (i + 1)) ≡ all
  no_word_here h t b l r =
      ap (λ (w : List (List ℕ)). done ++ w) (sym (kept_no _ _ _ (at_end separates s start i h t) (none_between s start i b l))) ∙ r

  pub in_word : i < length s → separates (get_or s i 0) ≡ false → start ≤ i → done ++ filter some (rest_of separates s start i) ≡ all → done ++ filter some (rest_of separates s start (i + 1)) ≡ all
  in_word h t b r = ap (λ (w : List (List ℕ)). done ++ filter some w) (sym (inside separates s start i b h t)) ∙ r

  pub last_word : (more : List (List ℕ)) → length s ≤ i → start < length s → more ≡ done ++ between start (length s) s ∷ [] → done ++ filter some (rest_of separates s start i) ≡ all → more ≡ all
  last_word more h l e r =
      e ∙ ap (λ (w : List (List ℕ)). done ++ w) (sym (kept_yes _ _ _ (at_last separates s start i h) (some_between s start (length s) l (le_refl _)))) ∙ r

  pub no_last_word : length s ≤ i → i ≤ length s → start ≤ i → length s ≤ start → done ++ filter some (rest_of separates s start i) ≡ all → done ≡ all
  no_last_word h k b l r =
      sym (append-nil done) ∙ ap (λ (w : List (List ℕ)). done ++ w) (sym (kept_no _ _ _ (at_last separates s start i h) (none_between s start (length s) (omega arith) l))) ∙ r

joined_kept : (piece : List ℕ) (rest : List (List ℕ)) → flat_map (λ w. w) (filter some (piece ∷ rest)) ≡ piece ++ flat_map (λ w. w) (filter some rest)
joined_kept [] rest = refl
joined_kept (b ∷ bs) rest = refl

joined_words : (test : ℕ → Bool) (piece bs : List ℕ) → flat_map (λ w. w) (filter some (pieces_after test piece bs)) ≡ piece ++ filter (λ b. not (test b)) bs
joined_words test piece [] = joined_kept piece []
joined_words test piece (b ∷ bs) =
    cond_both (test b) _ _ (λ l. flat_map (λ w. w) (filter some l) ≡ piece ++ filter (λ c. not (test c)) (b ∷ bs))
    (λ e. joined_kept piece (pieces_after test [] bs) ∙ ap (λ l. piece ++ l) (joined_words test [] bs ∙ sym (cond-false (not (test b)) _ _ (not_from_true _ e))))
    (λ e. joined_words test (piece ++ b ∷ []) bs ∙ append_assoc piece (b ∷ []) _ ∙ ap (λ l. piece ++ l) (sym (cond-true (not (test b)) _ _ (not_from_false _ e))))

pub are_words : (line : List ℕ) (ws : List (List ℕ)) → ws ≡ words_of line → CutIntoWords line ws
unfolding words_of
are_words line ws e = record {
  are = e;
  none_empty = subst (AllByRecursion (λ w. some w ≡ true)) (sym e) (kept_by_passes some (pieces_after separates [] line));
  each = subst (AllByRecursion (FreeOf separates)) (sym e) (all_kept_by some (FreeOf separates) _ (all_free separates [] line tt));
  whole = ap (flat_map (λ w. w)) e ∙ joined_words separates [] line;
}
