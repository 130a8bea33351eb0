use Rattle.std.proofs.Common.{◌≡◌, ◌+◌, ◌++◌, map, drop, string_bytes}
use Rattle.sheet.specs.Desk.{declared, setup_wire}
use Rattle.sheet.specs.Print.{prints_from}
use Rattle.sheet.proofs.running.run_declarations.Given as goal

abbrev pub invariant-loop-i : goal.invariant-loop-i
invariant-loop-i l =
    string_bytes l.out ++ prints_from (l.i + 1) (declared (setup_wire l.setup)) (map (λ x. x.now) (drop l.i l.pieces))
    ≡ string_bytes l.initial.out ++ prints_from 1 (declared (setup_wire l.initial.setup)) (map (λ x. x.now) l.pieces)
