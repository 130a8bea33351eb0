use Rattle.std.proofs.Common.{◌≡◌, ◌≤◌, ◌++◌, map, vec_items, filter}
use Rattle.text.specs.Pieces.{separates, some, words_of}
use Rattle.text.proofs.Cuts.{rest_of}
use Rattle.text.proofs.line_words.words.Given as goal

-- the words so far, with those that are to come, are the line's
abbrev pub invariant-loop-i : goal.invariant-loop-i
invariant-loop-i l = (l.start ≤ l.i) × (map (λ x. x.now) (vec_items l.words) ++ filter some (rest_of separates l.line l.start l.i) ≡ words_of l.line)
