-- The line wire, which holds frames as groups.
use Rattle.std.specs.Prelude.{◌≡◌, ℕ, Bool, cond, List, map, replicate}
use Rattle.std.specs.List.{list_all}
use Rattle.line.specs.declared.counts.Counts.{Counts}
use Rattle.line.specs.declared.width.Width.{Width}
use Rattle.line.specs.Code.{in_range}
use Rattle.line.specs.Groups.{counts_of, width_of, with_counts, fresh, coded_counts, coded_groups, received_frame}
use Rattle.ring.specs.Items.{ring_items, ring_cap}
use Rattle.wire.specs.declared.lines.LineWire.{LineWire}
use Rattle.wire.specs.Wires.{frame_size}
use Rattle.wire.specs.Kept.{keeps, gained}

-- the frame that groups carry; zeros for what is no 80 groups of five bits, so that every wire has a meaning
unfoldable pub carried : Width → List ℕ → List ℕ
carried width groups = received_frame width groups (replicate frame_size 0)

-- the counts that the next frame goes out from; 0 on every line where one has a count that no line comes to
unfoldable pub running : Counts → Counts
running counts = cond (list_all in_range (counts_of counts)) counts (fresh (width_of counts))

-- the groups of a frame that goes out from counts, and the counts after it
unfoldable pub groups_out : Counts → List ℕ → List ℕ
groups_out counts frame = coded_groups (running counts) frame

unfoldable pub counts_out : Counts → List ℕ → Counts
counts_out counts frame = with_counts (running counts) (coded_counts (running counts) frame)

-- a frame has gone out: its groups, the counts after it, and that the groups carry it
pub record Coded (counts : Counts) (frame groups : List ℕ) (after : Counts) : Type 0 where
  pub out : groups ≡ groups_out counts frame
  pub moved : after ≡ counts_out counts frame
  pub back : carried (width_of counts) groups ≡ frame
  pub width : width_of after ≡ width_of counts

abbrev pub line_width : LineWire → Width
line_width w = width_of w.counts

-- the groups that it holds, those of the oldest frame first
abbrev pub line_groups : LineWire → List (List ℕ)
line_groups w = ring_items w.queue

-- the frames under way
abbrev pub line_frames : LineWire → List (List ℕ)
line_frames w = map (carried (line_width w)) (line_groups w)

-- how many it can hold
abbrev pub line_room : LineWire → ℕ
line_room w = ring_cap w.queue

-- whether a frame is kept
abbrev pub line_keeps : LineWire → List ℕ → Bool
line_keeps w frame = keeps (line_room w) (line_frames w) frame

-- a put keeps the frame where there is room, as groups that go out from the running counts, and these move on
pub record LinePuts (before : LineWire) (frame : List ℕ) (after : LineWire) : Type 0 where
  pub frames : line_frames after ≡ gained (line_keeps before frame) (line_frames before) frame
  pub groups : line_groups after ≡ gained (line_keeps before frame) (line_groups before) (groups_out before.counts frame)
  pub counts : after.counts ≡ cond (line_keeps before frame) (counts_out before.counts frame) before.counts
  pub room : line_room after ≡ line_room before

-- nothing but the list changes where a frame is taken off
pub record LineTakes (before after : LineWire) : Type 0 where
  pub counts : after.counts ≡ before.counts
  pub room : line_room after ≡ line_room before
