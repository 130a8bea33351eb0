-- The plain wire.
use Rattle.std.specs.Prelude.{◌≡◌, ℕ, List}
use Rattle.ring.specs.Items.{ring_items, ring_cap}
use Rattle.wire.specs.declared.plain.PlainWire.{PlainWire}
use Rattle.wire.specs.Kept.{keeps, gained}

-- the frames under way
abbrev pub plain_frames : PlainWire → List (List ℕ)
plain_frames w = ring_items w.queue

-- how many it can hold
abbrev pub plain_room : PlainWire → ℕ
plain_room w = ring_cap w.queue

-- a put keeps the frame where there is room, and the room stays
pub record PlainPuts (before : PlainWire) (frame : List ℕ) (after : PlainWire) : Type 0 where
  pub frames : plain_frames after ≡ gained (keeps (plain_room before) (plain_frames before) frame) (plain_frames before) frame
  pub room : plain_room after ≡ plain_room before

abbrev pub PlainTakes : PlainWire → PlainWire → Type 0
PlainTakes before after = plain_room after ≡ plain_room before
