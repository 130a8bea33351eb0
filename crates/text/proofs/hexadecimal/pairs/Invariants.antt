use Rattle.std.proofs.Common.{◌≡◌, ◌*◌, ◌++◌, drop, vec_items}
use Rattle.std.specs.Option.{option_map}
use Rattle.text.specs.Hex.{pairs_of}
use Rattle.text.proofs.hexadecimal.pairs.Given as goal

-- the bytes so far, with those that are to come, are the word's
abbrev pub invariant-loop-high : goal.invariant-loop-high
invariant-loop-high l = option_map (λ bs. vec_items l.bytes ++ bs) (pairs_of (drop (l.high-index * 2) l.word)) ≡ pairs_of l.word
