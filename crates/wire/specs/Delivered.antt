-- What a wire answers where the oldest frame comes off, or where there is none.
use Rattle.std.specs.Prelude.{ℕ, List, Some, None, Option}
use Rattle.wire.specs.declared.arrival.Arrival.{Arrival}
use Rattle.wire.specs.declared.arrival.Arrival.TheVariants.{Frame, Nothing}

abbrev pub arrival_of : Option (List ℕ) → Arrival
arrival_of None = Nothing
arrival_of (Some frame) = Frame
