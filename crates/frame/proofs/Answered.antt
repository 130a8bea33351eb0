-- What an answer tells of the refusal that might have stood in its place.
use Rattle.std.proofs.Common.{◌≡◌, ℕ, Some, None, Ok, Err, Option, refl, arith}
use Rattle.frame.specs.declared.refusal.Refusal.{Refusal}
use Rattle.frame.specs.Codec.{or_else}

-- an answer came of no refusal
pub answered : {X : Type 0} (o : Option Refusal) (x y : X) → Ok y ≡ or_else o x → (o ≡ None) × (y ≡ x)
answered None x y e = (refl, cc)
answered (Some r) x y e = let z : ◌≡◌ {A = ℕ} 0 1 = cc in absurd (omega arith)

-- a refusal came of itself
pub refused : {X : Type 0} (o : Option Refusal) (x : X) (r : Refusal) → Err r ≡ or_else o x → o ≡ Some r
refused None x r e = let z : ◌≡◌ {A = ℕ} 0 1 = cc in absurd (omega arith)
refused (Some s) x r e = cc
