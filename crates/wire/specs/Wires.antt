-- What a wire may do to the frames under way, oldest first.
use Rattle.std.specs.Prelude.{◌≡◌, ℕ, List, [], ◌∷◌, ◌++◌, length, Ok, Err, Result, ◌≢◌}
use Rattle.frame.specs.declared.refusal.Refusal.{Refusal}
use Rattle.frame.specs.declared.refusal.Refusal.TheVariants.{BadSize}
use Rattle.frame.specs.Checks.{syndrome_of}
use Rattle.wire.specs.declared.arrival.Arrival.{Arrival}
use Rattle.wire.specs.declared.arrival.Arrival.TheVariants.{Frame, Nothing}

-- how many bytes a frame has
abbrev pub frame_size : ℕ
frame_size = 40

-- as many bytes as a frame has
abbrev pub Whole : List ℕ → Type 0
Whole bytes = length bytes ≡ frame_size

-- a frame is put on: the list stays, always where the frame is refused, or gains the frame last, or gains last a
-- frame's bytes that do not pass the link check
pub data Put (before : List (List ℕ)) (frame : List ℕ) (after : List (List ℕ)) : Type 0 where
  stays : after ≡ before → Put before frame after
  gains : Whole frame → after ≡ before ++ (frame ∷ []) → Put before frame after
  spoilt : (bytes : List ℕ) → Whole frame → Whole bytes → (syndrome_of bytes ≢ 0) → after ≡ before ++ (bytes ∷ []) → Put before frame after

-- the oldest is asked for, into a buffer: it comes off, or nothing comes and no byte is written, exactly where the list
-- is empty; a buffer of another size than a frame's is refused, and nothing changes
pub data Next (before : List (List ℕ)) (buffer : List ℕ) (answer : Result Arrival Refusal) (written : List ℕ) (after : List (List ℕ)) : Type 0 where
  refused : (Whole buffer → ⊥) → answer ≡ Err BadSize → written ≡ buffer → after ≡ before → Next before buffer answer written after
  nothing : Whole buffer → before ≡ [] → answer ≡ Ok Nothing → written ≡ buffer → after ≡ before → Next before buffer answer written after
  oldest : Whole buffer → before ≡ written ∷ after → answer ≡ Ok Frame → Next before buffer answer written after
