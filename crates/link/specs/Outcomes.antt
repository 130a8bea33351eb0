-- A call that may be refused: what it found, or why not.
use Rattle.std.specs.Prelude.{Ok, Err, Result}
use Rattle.frame.specs.declared.refusal.Refusal.{Refusal}
use Rattle.frame.specs.declared.refusal.Refusal.TheVariants.{NotNormal}
use Rattle.link.specs.declared.phase.Phase.{Phase}
use Rattle.link.specs.declared.phase.Phase.TheVariants.{Normal, Shutdown}
use Rattle.link.specs.States.{State}

-- the first refusal ends it
abbrev pub and_then : {X Y : Type 0} → Result X Refusal → (X → Result Y Refusal) → Result Y Refusal
and_then (Ok x) f = f x
and_then (Err e) f = Err e

-- what is done only in Normal
abbrev pub if_normal : {X : Type 0} → Phase → Result X Refusal → Result X Refusal
if_normal Normal x = x
if_normal Shutdown x = Err NotNormal

-- the answer of a call that answers nothing else
abbrev pub done : {X : Type 0} → Result X Refusal → Result (Unit {0}) Refusal
done (Ok x) = Ok tt
done (Err e) = Err e

-- the end after it: as it was where it is refused
abbrev pub end_after : State → Result State Refusal → State
end_after s (Ok t) = t
end_after s (Err e) = s
