use Rattle.std.proofs.Common.{◌≡◌, ℕ, ◌+◌, ◌≤◌, List, ◌++◌, map, drop, length, string_bytes, sym, ap, ◌∙◌, append-nil, arith, Bor}
use Rattle.std.proofs.lemmas.Grind.{common_steps}
use Rattle.sheet.specs.Desk.{called, wire_state}
use Rattle.sheet.specs.Print.{prints_from}
use Rattle.sheet.proofs.Printed.{one_more, none_left}
use Rattle.sheet.proofs.running.run_calls.Goals as goal

pub loop-i-preserved : goal.loop-i-preserved
loop-i-preserved c =
    let e : c.args.from + (c.loop-i.i + 1) + 1 ≡ c.args.from + c.loop-i.i + 1 + 1 = omega arith in
    rw e (one_more c.in-Some.rest.now c.loop-i.i (c.args.from + c.loop-i.i + 1) _ _ _ _ _ _ _ _ (omega arith) c.in_ok-asked.ensures
    c.carry_out-answer.ensures.answer c.carry_out-answer.ensures.state c.in_ok-put_answer.ensures c.loop-i.invariant)

pub returns-in_default : goal.returns-in_default
returns-in_default c =
    let h : length c.args.pieces.now ≤ c.args.from = grind (arith, c.in_default.ensures.lookup) in
    sym (ap (λ (l : List ℕ). string_bytes c.args.out.now ++ l) (none_left c.args.pieces.now c.args.from (c.args.from + 1) _ h) ∙ append-nil (string_bytes c.args.out.now))

pub returns : goal.returns
returns c =
    let r : c.in-Some.rest.now ≡ drop c.args.from c.args.pieces.now = grind (arith, common_steps, c.in-Some.ensures.lookup) in
    sym (append-nil (string_bytes c.loop-i.out))
    ∙ ap (λ (l : List ℕ). string_bytes c.loop-i.out ++ l) (sym (none_left c.in-Some.rest.now c.loop-i.i (c.args.from + c.loop-i.i + 1) _ (omega arith)))
    ∙ c.loop-i.invariant
    ∙ ap (λ (l : List (Bor (List ℕ))). string_bytes c.args.out.now ++ prints_from (c.args.from + 1) (called (wire_state c.args.wire.now)) (map (λ x. x.now) l)) r
