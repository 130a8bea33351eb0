-- What a queue keeps is what a wire may keep, and so is what its elements carry.
use Rattle.std.proofs.Common.{◌≡◌, ℕ, Bool, true, false, cond, ltb, List, [], ◌∷◌, map, length, refl, ap, ◌∙◌}
use Rattle.std.proofs.lemmas.List.{length-map, map-append}
use Rattle.std.proofs.lemmas.Bool.{eq-eqb}
use Rattle.line.specs.declared.counts.Counts.{Counts}
use Rattle.line.specs.Groups.{width_of}
use Rattle.wire.specs.declared.lines.LineWire.{LineWire}
use Rattle.wire.specs.Wires.{Whole, Put, stays, gains}
use Rattle.wire.specs.Kept.{gained}
use Rattle.wire.specs.Lines.{carried, Coded, line_frames, line_groups, line_room, line_width, line_keeps, LinePuts}

put_gained : (kept : Bool) (before : List (List ℕ)) (frame : List ℕ) (after : List (List ℕ)) → Whole frame → after ≡ gained kept before frame → Put before frame after
put_gained true before frame after whole e = gains whole e
put_gained false before frame after whole e = stays e

gained_map : {X Y : Type 0} (f : X → Y) (kept : Bool) (xs : List X) (x : X) → map f (gained kept xs x) ≡ gained kept (map f xs) (f x)
gained_map f true xs x = map-append f xs (x ∷ [])
gained_map f false xs x = refl

width_after : (kept : Bool) (before counts after : Counts) → width_of counts ≡ width_of before → after ≡ cond kept counts before → width_of after ≡ width_of before
width_after true before counts after w e = ap width_of e ∙ w
width_after false before counts after w e = ap width_of e

-- a frame goes out as groups, these are pushed, and the counts move on where there was room
module _
    (before after : LineWire) (frame groups : List ℕ) (counts : Counts) (whole : Whole frame)
    (coded : Coded before.counts frame groups counts) (kept : Bool)
    (test : kept ≡ ltb (length (line_groups before)) (line_room before))
    (items : line_groups after ≡ gained kept (line_groups before) groups)
    (moved : after.counts ≡ cond kept counts before.counts) where
  keeps_so : kept ≡ line_keeps before frame
  keeps_so = rw (eq-eqb (length frame) 40 whole) (rw length-map test)

  frames_so : line_frames after ≡ gained kept (line_frames before) frame
  frames_so =
      ap (λ w. map (carried w) (line_groups after)) (width_after kept before.counts counts after.counts coded.width moved)
      ∙ ap (map (carried (line_width before))) items
      ∙ gained_map (carried (line_width before)) kept (line_groups before) groups
      ∙ ap (gained kept (line_frames before)) coded.back

  pub line_pushed : line_room after ≡ line_room before → Put (line_frames before) frame (line_frames after) × LinePuts before frame after
  line_pushed same = (
    put_gained kept (line_frames before) frame (line_frames after) whole frames_so,
    record {
      frames = rw (← keeps_so) frames_so;
      groups = rw (← keeps_so) (items ∙ ap (gained kept (line_groups before)) coded.out);
      counts = rw (← keeps_so) (moved ∙ ap (λ k. cond kept k before.counts) coded.moved);
      room = same;
    },
  )
