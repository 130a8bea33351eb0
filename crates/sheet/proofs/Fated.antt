-- Fates are read one by one.
use Rattle.std.proofs.Common.{◌≡◌, ℕ, ◌-◌, ◌<◌, ◌≤◌, map, take, ap₂, Bor, false, List, [], ◌∷◌, ◌++◌, length, eqb, drop, Some, None, Option, refl, sym, ap, ◌∙◌, arith, rules}
use Rattle.std.specs.Bool.{then_some}
use Rattle.std.specs.Option.{option_map}
use Rattle.std.proofs.lemmas.List.{drop-map}
use Rattle.std.proofs.lemmas.Slice.{between_to_end}
use Rattle.std.proofs.lemmas.Slice.Eq.{bytes_eq-Decides}
use Rattle.wire.specs.declared.fate.Fate.{Fate}
use Rattle.sheet.specs.Asks.{first_fate, fates_from}
use Rattle.sheet.specs.Lines.{says}

-- what comes of words whose first ones say this
abbrev pub behind : Option (Fate × ℕ) → List Fate → List (List ℕ) → Option (List Fate)
behind None fates [] = Some fates
behind None fates (w ∷ ws) = None
behind (Some p) fates ws = fates_from false (fates ++ p.0 ∷ []) (drop p.1 ws)

pub one_more : (fates : List Fate) (ws : List (List ℕ)) → fates_from false fates ws ≡ behind (first_fate ws) fates ws
unfolding fates_from says
one_more fates [] = refl
one_more fates (w ∷ []) = grind (arith, bytes_eq-Decides)
one_more fates (w ∷ v ∷ ws) = grind (arith, bytes_eq-Decides)

-- a fate takes a word or two, of those that there are
pub taken : (ws : List (List ℕ)) (p : Fate × ℕ) → first_fate ws ≡ Some p → (0 < p.1) × (p.1 ≤ length ws)
taken [] p e = absurd (cc)
taken (w ∷ []) p e = grind arith
taken (w ∷ v ∷ ws) p e = grind arith

-- one fate more is read of the words that are left
pub read_on :
    (fates after : List Fate) (items : List (Bor (List ℕ))) (fate : Fate) (n : ℕ) → Some (fate, n) ≡ first_fate (map (λ x. x.now) items)
    → after ≡ fates ++ fate ∷ []
    → fates_from false after (map (λ x. x.now) (take (length items - n) (drop n items))) ≡ fates_from false fates (map (λ x. x.now) items)
read_on fates after items fate n e a =
    let one = one_more fates (map (λ x. x.now) items) in
    let same : behind (first_fate (map (λ x. x.now) items)) fates (map (λ x. x.now) items) ≡ fates_from false (fates ++ fate ∷ []) (drop n (map (λ x. x.now) items)) =
    ap (λ (o : Option (Fate × ℕ)). behind o fates (map (λ x. x.now) items)) (sym e) in
    ap₂ (λ (f : List Fate) (l : List (Bor (List ℕ))). fates_from false f (map (λ x. x.now) l)) a (between_to_end items n (length items) (omega arith))
    ∙ ap (λ (l : List (List ℕ)). fates_from false (fates ++ fate ∷ []) l) (sym (drop-map (λ x. x.now) n items))
    ∙ sym (one ∙ same)

all_read : (fates : List Fate) (items : List (Bor (List ℕ))) → length items ≡ 0 → Some fates ≡ fates_from false fates (map (λ x. x.now) items)
unfolding fates_from
all_read fates [] e = refl
all_read fates (x ∷ items) e = absurd (omega arith)

none_read :
    (fates : List Fate) (items : List (Bor (List ℕ))) → None ≡ first_fate (map (λ x. x.now) items) → 0 < length items
    → None ≡ fates_from false fates (map (λ x. x.now) items)
none_read fates [] e h = absurd (omega arith)
none_read fates (x ∷ items) e h =
    sym (one_more fates (map (λ x. x.now) (x ∷ items))
    ∙ ap (λ (o : Option (Fate × ℕ)). behind o fates (map (λ x. x.now) (x ∷ items))) (sym e))

-- where the next words say no fate, they are all read just if none is left
pub end_read :
    {V : Type 0} (items : V → List Fate) (v : V) (words : List (Bor (List ℕ))) → None ≡ first_fate (map (λ x. x.now) words)
    → option_map items (then_some (eqb (length words) 0) v) ≡ fates_from false (items v) (map (λ x. x.now) words)
end_read items v [] e = all_read (items v) [] refl
end_read items v (x ∷ words) e =
    let some : eqb (length (x ∷ words)) 0 ≡ false = search rules in
    rw some (none_read (items v) (x ∷ words) e (omega arith))
