-- Bytes written into the middle of others.
use Rattle.std.specs.Prelude.{ℕ, ◌+◌, List, ◌++◌, length, take, drop}

-- a part written over what stood from a place on
unfoldable pub written : ℕ → List ℕ → List ℕ → List ℕ
written at part room = take at room ++ (part ++ drop (at + length part) room)
