use Rattle.std.proofs.Common.{◌≡◌, ◌+◌, ◌++◌, map, length, take, drop, vec_items, string_bytes, ap, subst, ◌∙◌}
use Rattle.std.specs.Prelude.{OnOk}
use Rattle.sheet.specs.Desk.{WireState, called}
use Rattle.sheet.specs.Print.{prints_from}
use Rattle.sheet.proofs.MadeWire.{made_state}
use Rattle.sheet.proofs.running.run_made.Goals as goal

pub returns : goal.returns
returns c =
    let setup = c.args.setup.now in
    let places = ap length c.deref_mut.ensures.value ∙ c.in_ok-frames.ensures ∙ c.places.ensures in
    let state =
    made_state c.new-wire.result c.make-below.result setup.wire (vec_items setup.fates) c.new-wire.ensures.below c.make-below.ensures.empty
    (c.make-below.ensures.room places) (c.new-wire.ensures.fates ∙ ap (take 64) c.deref.ensures.value) in
    subst
    (λ (s : WireState). OnOk c.run_calls.result (string_bytes c.run_calls.new.out ≡ string_bytes c.args.out.now ++ prints_from (c.args.from + 1) (called s) (map (λ x. x.now) (drop c.args.from c.args.pieces.now))))
    state
    c.run_calls.ensures
