-- The fault layer: what becomes of a frame that is put on.
use Rattle.std.specs.Prelude.{◌≡◌, ℕ, ◌*◌, cond, List, length, drop, Some, None, Option, ◌==◌, nat_lt, slice_index_or}
use Rattle.std.specs.Slice.Iter.{iter_rest}
use Rattle.crc.specs.Laws.{flipped}
use Rattle.frame.specs.Checks.{syndrome_of}
use Rattle.wire.specs.declared.fate.Fate.{Fate}
use Rattle.wire.specs.declared.fate.Fate.TheVariants.{Pass, Lose, Flip}
use Rattle.wire.specs.declared.fault.Fault.{Fault}
use Rattle.wire.specs.Wires.{frame_size}

-- the fates that are left: of those given, 64 at most are used
abbrev pub fates_left : {W : Type 0} → Fault W → List Fate
fates_left f = iter_rest f.fates

-- the fate of the next frame: after the last fate all pass
abbrev pub next_fate : List Fate → Fate
next_fate fates = slice_index_or fates 0 Pass

-- a frame with bit n turned over, where there is such a bit and the frame was good: any other passes
abbrev pub damaged : ℕ → List ℕ → List ℕ
damaged n frame = cond (nat_lt n (8 * frame_size)) (cond (syndrome_of frame == 0) (flipped frame n) frame) frame

-- what a fate makes of a frame: none where it is lost
abbrev pub struck : Fate → List ℕ → Option (List ℕ)
struck Pass frame = Some frame
struck Lose frame = None
struck (Flip n) frame = Some (damaged n frame)

-- what is handed to the wire below, whose own word on its puts is given: nothing, and it stays as it is, or a frame
abbrev pub Handed : {W : Type 0} → (W → List ℕ → W → Type 0) → Option (List ℕ) → W → W → Type 0
Handed puts None before after = after ≡ before
Handed puts (Some frame) before after = puts before frame after

-- one fate is spent on each put that is not refused, and the wire below gets what that fate makes of the frame
pub record FaultPuts {W : Type 0} (puts : W → List ℕ → W → Type 0) (before : Fault W) (frame : List ℕ) (after : Fault W) : Type 0 where
  pub fates : fates_left after ≡ cond (length frame == frame_size) (drop 1 (fates_left before)) (fates_left before)
  pub below :
      Handed puts (cond (length frame == frame_size) (struck (next_fate (fates_left before)) frame) None)
      before.below after.below

-- taking a frame off spends none
pub record FaultTakes {W : Type 0} (takes : W → W → Type 0) (before after : Fault W) : Type 0 where
  pub fates : fates_left after ≡ fates_left before
  pub below : takes before.below after.below
