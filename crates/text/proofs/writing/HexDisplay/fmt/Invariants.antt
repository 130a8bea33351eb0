use Rattle.std.proofs.Common.{◌≡◌}
use Rattle.std.specs.Slice.Iter.{chunks_rest, chunks_size}
use Rattle.text.proofs.Puts.{Putting}
use Rattle.text.proofs.writing.HexDisplay.fmt.Given as goal

abbrev pub invariant-loop-piece : goal.invariant-loop-piece
invariant-loop-piece g l =
    (chunks_size l.piece-iterator ≡ 32) × Putting g.W.Write.write_str_gives l.initial.f l.self.0.now l.f (chunks_rest l.piece-iterator)
