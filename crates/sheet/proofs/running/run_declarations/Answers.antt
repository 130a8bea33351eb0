use Rattle.std.proofs.Common.{ℕ, ◌+◌, Bool, cond, List, [], ◌++◌, map, length, drop, string_bytes, sym, ap, ◌∙◌, arith}
use Rattle.sheet.specs.Asks.{ask_of}
use Rattle.sheet.specs.Desk.{World, declared, called, setup_wire, after_ask, outcome_in, is_call}
use Rattle.sheet.specs.Print.{prints_from}
use Rattle.sheet.proofs.Printed.{one_more, none_left, from_call, was_call, was_other}
use Rattle.sheet.proofs.running.run_declarations.Goals as goal

pub returns-in-None : goal.returns-in-None
returns-in-None c =
    let items = c.args.pieces.now in
    let i = c.loop-i.i in
    let s = setup_wire c.loop-i.setup in
    let world = declared s in
    let ask = ask_of c.in_ok-asked.asked in
    let out = string_bytes c.loop-i.out in
    let calls = was_call (is_call ask) (outcome_in world ask) c.in-None.ensures.answer in
    let stays = c.in-None.ensures.state ∙ ap (λ (b : Bool). cond b world (after_ask world ask)) calls in
    ap (λ (w : World). out ++ prints_from (i + 1) (called w.wire) (map (λ x. x.now) (drop i items))) stays
    ∙ ap (λ (l : List ℕ). out ++ l) (sym (from_call items i (record { ref_ptr = (0, 0); now = [] }) s (omega arith) (ap is_call (sym c.in_ok-asked.ensures) ∙ calls)))
    ∙ c.loop-i.invariant

pub loop-i-preserved : goal.loop-i-preserved
loop-i-preserved c =
    let world = declared (setup_wire c.loop-i.setup) in
    let ask = ask_of c.in_ok-asked.asked in
    let other = was_other (is_call ask) (outcome_in world ask) c.in-Some.answer c.in-Some.ensures.answer in
    one_more c.args.pieces.now c.loop-i.i (c.loop-i.i + 1) _ _ _ _ _ _ ask c.in-Some.answer (omega arith) c.in_ok-asked.ensures other.1
    (c.in-Some.ensures.state ∙ ap (λ (b : Bool). cond b world (after_ask world ask)) other.0) c.in_ok-put_answer-in-Some.ensures c.loop-i.invariant

pub returns : goal.returns
returns c =
    let items = c.args.pieces.now in
    let out = string_bytes c.loop-i.out in
    ap (λ (l : List ℕ). out ++ l) (none_left items (length items) _ _ (omega arith) ∙ sym (none_left items c.loop-i.i _ _ (omega arith)))
    ∙ c.loop-i.invariant
