use Rattle.std.proofs.Common.{◌≡◌, ℕ, ◌*◌, ◌<◌, length, get_or}
use Rattle.line.specs.Places.{group_at}
use Rattle.line.proofs.Nibbles.{nibble}
use Rattle.line.proofs.groups.spread.Given as goal

abbrev pub invariant-loop-b : goal.invariant-loop-b
invariant-loop-b l = record {
  size : length l.groups ≡ 80;
  codes : (h : ℕ) → h < 2 * l.b → get_or l.groups (group_at l.width h) 0 ≡ nibble l.frame h;
}
