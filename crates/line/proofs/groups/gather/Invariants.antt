use Rattle.std.proofs.Common.{◌≡◌, ℕ, ◌+◌, ◌*◌, ◌<◌, length, get_or}
use Rattle.line.specs.Places.{place}
use Rattle.line.specs.Groups.{number, group_bit}
use Rattle.line.proofs.groups.gather.Given as goal

abbrev pub invariant-loop-b : goal.invariant-loop-b
invariant-loop-b l = record {
  size : length l.frame ≡ 40;
  bytes : (k : ℕ) → k < l.b → get_or l.frame k 0 ≡ number 8 (λ j. group_bit l.groups (place l.width (8 * k + j)));
}
