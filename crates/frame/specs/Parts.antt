-- A frame taken apart.
use Rattle.std.specs.Prelude.{List, ℕ, length, Result}
use Rattle.frame.specs.declared.parts.Parts.{Parts}
use Rattle.frame.specs.declared.refusal.Refusal.{Refusal}
use Rattle.frame.specs.Layout.{fields_of, data_of}
use Rattle.frame.specs.Codec.{or_else, frame_refusal}
use Rattle.frame.specs.Checks.{syndrome_of}

-- the parts of a frame
abbrev pub whole_parts : List ℕ → Parts
whole_parts frame = record { fields = fields_of frame; content = data_of frame; syndrome = syndrome_of frame }

-- the answer where a frame is taken apart
abbrev pub taken_apart : List ℕ → Result Parts Refusal
taken_apart frame = or_else (frame_refusal (length frame)) (whole_parts frame)
