-- A wire that is made as declared.
use Rattle.std.proofs.Common.{◌≡◌, List, [], take, ap, ◌∙◌}
use Rattle.wire.specs.declared.any.AnyWire.{AnyWire}
use Rattle.wire.specs.declared.fate.Fate.{Fate}
use Rattle.wire.specs.declared.fault.Fault.{Fault}
use Rattle.wire.specs.Anys.{any_frames}
use Rattle.wire.specs.Fates.{fates_left}
use Rattle.sheet.specs.declared.request.WireKind.{WireKind}
use Rattle.sheet.specs.Desk.{any_room, room_of, wire_state, declared_wire}

pub made_state :
    (f : Fault AnyWire) (below : AnyWire) (kind : WireKind) (fates : List Fate) → f.below ≡ below → any_frames below ≡ []
    → any_room below ≡ room_of kind → fates_left f ≡ take 64 fates → wire_state f ≡ declared_wire kind fates
made_state f below kind fates b e r t =
    let room = ap any_room b ∙ r in
    let frames = ap any_frames b ∙ e in
    cc
