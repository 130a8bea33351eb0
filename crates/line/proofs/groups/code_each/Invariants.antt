use Rattle.std.proofs.Common.{◌≡◌, ℕ, ◌<◌, ◌≤◌, true, length, get_or}
use Rattle.std.specs.List.{list_all}
use Rattle.line.specs.Code.{in_range}
use Rattle.line.specs.Groups.{counts_after, word_at}
use Rattle.line.proofs.groups.code_each.Given as goal

abbrev pub invariant-loop-g : goal.invariant-loop-g
invariant-loop-g g l =
    record {
      size : length l.groups ≡ 80;
      after : l.counts ≡ counts_after l.table g.row.N l.initial.groups l.initial.counts l.g;
      range : list_all in_range l.counts ≡ true;
      words : (k : ℕ) → k < l.g → get_or l.groups k 0 ≡ word_at l.table g.row.N l.initial.groups l.initial.counts k;
      codes : (k : ℕ) → l.g ≤ k → get_or l.groups k 0 ≡ get_or l.initial.groups k 0;
    }
