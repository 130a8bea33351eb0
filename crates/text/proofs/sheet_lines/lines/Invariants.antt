use Rattle.std.proofs.Common.{◌≡◌, ◌≤◌, ◌++◌, map, vec_items}
use Rattle.text.specs.Pieces.{ends_line, lines_of}
use Rattle.text.proofs.Cuts.{rest_of}
use Rattle.text.proofs.sheet_lines.lines.Given as goal

-- the lines so far, with those that are to come, are the sheet's
abbrev pub invariant-loop-i : goal.invariant-loop-i
invariant-loop-i l = (l.start ≤ l.i) × (map (λ x. x.now) (vec_items l.pieces) ++ rest_of ends_line l.sheet l.start l.i ≡ lines_of l.sheet)
