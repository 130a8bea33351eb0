use Rattle.std.proofs.Common.{◌≡◌, length, map, take}
use Rattle.text.specs.Hex.{pair_of}
use Rattle.text.proofs.writing.spelled.Given as goal

abbrev pub invariant-loop-i : goal.invariant-loop-i
invariant-loop-i l = (length l.text ≡ 32) × (take l.i l.text ≡ map pair_of (take l.i l.bytes))
