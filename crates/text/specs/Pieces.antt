-- The lines of a sheet and the words of a line: the pieces of a text between bytes of a kind.
use Rattle.std.specs.Prelude.{◌≡◌, ℕ, Bool, true, false, cond, not, ◌||◌, List, [], ◌∷◌, ◌++◌, filter, ◌==◌}
use Rattle.std.specs.List.{join_with_byte, flat_map, AllByRecursion}

-- a line feed
abbrev pub ends_line : ℕ → Bool
ends_line b = b == 10

-- a space, a tab or a carriage return
abbrev pub separates : ℕ → Bool
separates b = b == 32 || (b == 9 || b == 13)

-- the pieces of bs between the bytes that pass the test, where `piece` was read of the first before bs
abbrev pub pieces_after : (ℕ → Bool) → List ℕ → List ℕ → List (List ℕ)
pieces_after test piece [] = piece ∷ []
pieces_after test piece (b ∷ bs) = cond (test b) (piece ∷ pieces_after test [] bs) (pieces_after test (piece ++ b ∷ []) bs)

abbrev pub some : List ℕ → Bool
some [] = false
some (b ∷ bs) = true

-- k line feeds give k + 1 lines
unfoldable pub lines_of : List ℕ → List (List ℕ)
lines_of sheet = pieces_after ends_line [] sheet

-- the pieces that are not empty
unfoldable pub words_of : List ℕ → List (List ℕ)
words_of line = filter some (pieces_after separates [] line)

-- no byte passes the test
abbrev pub FreeOf : (ℕ → Bool) → List ℕ → Type 0
FreeOf test bs = AllByRecursion (λ b. test b ≡ false) bs

-- what a cut into lines gives: joined by line feeds they are the sheet again, and no line has one
pub record CutIntoLines (sheet : List ℕ) (ls : List (List ℕ)) : Type 0 where
  pub are : ls ≡ lines_of sheet
  pub whole : join_with_byte 10 ls ≡ sheet
  pub each : AllByRecursion (FreeOf ends_line) ls

-- what a cut into words gives: none is empty or has a separator, and joined they are the line without its separators
pub record CutIntoWords (line : List ℕ) (ws : List (List ℕ)) : Type 0 where
  pub are : ws ≡ words_of line
  pub none_empty : AllByRecursion (λ w. some w ≡ true) ws
  pub each : AllByRecursion (FreeOf separates) ws
  pub whole : flat_map (λ w. w) ws ≡ filter (λ b. not (separates b)) line
