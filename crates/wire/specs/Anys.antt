-- A wire whose kind is chosen as a program runs: all is as that wire says, and it stays of its kind.
use Rattle.std.specs.Prelude.{ℕ, List}
use Rattle.wire.specs.declared.any.AnyWire.{AnyWire}
use Rattle.wire.specs.declared.any.AnyWire.TheVariants.{Plain, Line}
use Rattle.wire.specs.Plains.{plain_frames, PlainPuts, PlainTakes}
use Rattle.wire.specs.Lines.{line_frames, LinePuts, LineTakes}

abbrev pub any_frames : AnyWire → List (List ℕ)
any_frames (Plain w) = plain_frames w
any_frames (Line w) = line_frames w

abbrev pub AnyPuts : AnyWire → List ℕ → AnyWire → Type 0
AnyPuts (Plain before) frame (Plain after) = PlainPuts before frame after
AnyPuts (Plain before) frame (Line after) = ⊥
AnyPuts (Line before) frame (Plain after) = ⊥
AnyPuts (Line before) frame (Line after) = LinePuts before frame after

abbrev pub AnyTakes : AnyWire → AnyWire → Type 0
AnyTakes (Plain before) (Plain after) = PlainTakes before after
AnyTakes (Plain before) (Line after) = ⊥
AnyTakes (Line before) (Plain after) = ⊥
AnyTakes (Line before) (Line after) = LineTakes before after
