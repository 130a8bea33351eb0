-- What a wire of limited room keeps.
use Rattle.std.specs.Prelude.{ℕ, Bool, false, cond, List, [], ◌∷◌, ◌++◌, length, ◌==◌, nat_lt}
use Rattle.wire.specs.Wires.{frame_size}

-- whether a frame is kept: it has a frame's size, and fewer frames are under way than there is room for
abbrev pub keeps : ℕ → List (List ℕ) → List ℕ → Bool
keeps room frames frame = cond (length frame == frame_size) (nat_lt (length frames) room) false

-- a list that gains an element last, or stays
abbrev pub gained : {X : Type 0} → Bool → List X → X → List X
gained kept xs x = cond kept (xs ++ (x ∷ [])) xs
