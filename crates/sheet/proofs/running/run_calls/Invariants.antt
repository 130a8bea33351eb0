use Rattle.std.proofs.Common.{◌≡◌, ◌+◌, ◌++◌, map, drop, string_bytes}
use Rattle.sheet.specs.Desk.{called, wire_state}
use Rattle.sheet.specs.Print.{prints_from}
use Rattle.sheet.proofs.running.run_calls.Given as goal

abbrev pub invariant-loop-i : goal.invariant-loop-i
invariant-loop-i l =
    string_bytes l.out ++ prints_from (l.from + l.i + 1) (called (wire_state l.wire)) (map (λ x. x.now) (drop l.i l.rest))
    ≡ string_bytes l.initial.out ++ prints_from (l.from + 1) (called (wire_state l.initial.wire)) (map (λ x. x.now) l.rest)
