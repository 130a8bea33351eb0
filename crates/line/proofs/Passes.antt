-- A test that every element passes, at a place and after a write.
use Rattle.std.proofs.Common.{◌≡◌, ℕ, ◌<◌, Bool, true, List, length, get_or, set, sym, refl, subst, inl, inr, ltb-true}
use Rattle.std.proofs.lemmas.Bool.{cases_lt}
use Rattle.std.proofs.lemmas.List.{get_or_past}
use Rattle.std.proofs.lemmas.List.Elements.{All-set}
use Rattle.std.proofs.lemmas.List.Sums.{AllPass-from_list_all, list_all-from_AllPass}
use Rattle.std.specs.List.{list_all}
use Rattle.line.specs.Code.{is_word}

-- what passes at a default passes at any place
pub all_get : {X : Type 0} (test : X → Bool) (xs : List X) (i : ℕ) (d : X) → test d ≡ true → list_all test xs ≡ true → test (get_or xs i d) ≡ true
all_get test xs i d e t =
    elim (cases_lt i (length xs)) [
      | inl h ↦ AllPass-from_list_all test xs t i d h
      | inr h ↦ subst (λ x. test x ≡ true) (sym (get_or_past xs i d h)) e
    ]

-- a group of coded ones has five bits
pub word_small : (groups : List ℕ) (g : ℕ) → list_all is_word groups ≡ true → get_or groups g 0 < 32
word_small groups g t = ltb-true (get_or groups g 0) 32 (all_get is_word groups g 0 refl t)

pub all_set : {X : Type 0} (test : X → Bool) (xs : List X) (i : ℕ) (x : X) → list_all test xs ≡ true → test x ≡ true → list_all test (set xs i x) ≡ true
all_set test xs i x t e =
    list_all-from_AllPass test (set xs i x) (All-set (λ y. test y ≡ true) xs i x e (AllPass-from_list_all test xs t))
