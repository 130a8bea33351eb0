-- What a whole sheet prints.
use Rattle.std.specs.Prelude.{ℕ, ◌+◌, List, [], ◌∷◌, ◌++◌, Some, None, Ok, Err, codes, decimal}
use Rattle.text.specs.Pieces.{lines_of, words_of}
use Rattle.sheet.specs.Asks.{asked}
use Rattle.sheet.specs.Desk.{Answer, World, new_world, after_ask, outcome_in}
use Rattle.sheet.specs.Shown.{shown_outcome, shown_trouble}

-- a line's number, what it answered, and a line feed
abbrev pub numbered : ℕ → List ℕ → List ℕ
numbered n text = decimal n ++ (codes ": " ++ (text ++ 10 ∷ []))

-- nothing of a line that has nothing to show
abbrev pub shown_line : ℕ → Answer → List ℕ
shown_line n (Ok None) = []
shown_line n (Ok (Some o)) = numbered n (shown_outcome o)
shown_line n (Err e) = numbered n (shown_trouble e)

-- what line n prints in a world
abbrev pub line_print : ℕ → World → List ℕ → List ℕ
line_print n world line = shown_line n (outcome_in world (asked (words_of line)))

-- the world behind a line
abbrev pub world_after : World → List ℕ → World
world_after world line = after_ask world (asked (words_of line))

-- lines from number n on, in a world
unfoldable pub prints_from : ℕ → World → List (List ℕ) → List ℕ
prints_from n world [] = []
prints_from n world (l ∷ ls) = line_print n world l ++ prints_from (n + 1) (world_after world l) ls

-- how each of the three ends stands when the sheet is over: nothing can be called yet
unfoldable pub closing : List ℕ
closing = codes "a loaded 0 accepted 0 messages 0 Normal\nb loaded 0 accepted 0 messages 0 Normal\nc loaded 0 accepted 0 messages 0 Normal\n"

-- the whole print
unfoldable pub printed : List ℕ → List ℕ
printed sheet = prints_from 1 new_world (lines_of sheet) ++ closing
