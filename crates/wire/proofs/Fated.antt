-- What fates do to frames is what a wire may do.
use Rattle.std.proofs.Common.{◌≡◌, ℕ, ◌⊎◌, List, [], ◌∷◌, ◌++◌, Some, ap, ◌∙◌, inl, inr, arith}
use Rattle.std.proofs.lemmas.Bool.Decides.{nat_tests}
use Rattle.crc.specs.Laws.{Bytes}
use Rattle.frame.specs.Checks.{syndrome_of}
use Rattle.frame.proofs.Residues.{frame_bit_shows}
use Rattle.wire.specs.declared.fate.Fate.{Fate}
use Rattle.wire.specs.declared.fate.Fate.TheVariants.{Pass, Lose, Flip}
use Rattle.wire.specs.Wires.{Whole, Put, stays, gains, spoilt}
use Rattle.wire.specs.Fates.{damaged, struck}

-- a flip leaves a frame as it is, or one that does not pass the link check
damage_shows : (n : ℕ) (frame : List ℕ) → Whole frame → Bytes frame → (damaged n frame ≡ frame) ⊎ (syndrome_of (damaged n frame) ≡ 0 → ⊥)
damage_shows n frame whole bytes = grind (arith, nat_tests, frame_bit_shows frame n whole bytes)

put_damaged : (before : List (List ℕ)) (frame bytes : List ℕ) (after : List (List ℕ)) → Whole frame → Whole bytes → (bytes ≡ frame) ⊎ (syndrome_of bytes ≡ 0 → ⊥) → Put before bytes after → Put before frame after
put_damaged before frame bytes after whole wide which (stays e) = stays e
put_damaged before frame bytes after whole wide (inl same) (gains w e) = gains whole (e ∙ ap (λ f. before ++ (f ∷ [])) same)
put_damaged before frame bytes after whole wide (inr bad) (gains w e) = spoilt bytes whole wide bad e
put_damaged before frame bytes after whole wide which (spoilt other w o bad e) = spoilt other whole o bad e

-- so a wire that gets what a fate made of a frame does what a wire that gets the frame may do
pub put_struck : (fate : Fate) (before : List (List ℕ)) (frame bytes : List ℕ) (after : List (List ℕ)) → Whole frame → Bytes frame → Whole bytes → Some bytes ≡ struck fate frame → Put before bytes after → Put before frame after
put_struck Pass before frame bytes after whole b wide e p = put_damaged before frame bytes after whole wide (inl (cc)) p
put_struck Lose before frame bytes after whole b wide e p = grind (arith)
put_struck (Flip n) before frame bytes after whole b wide e p =
    let same : bytes ≡ damaged n frame = cc in
    put_damaged before frame bytes after whole wide (rw same (damage_shows n frame whole b)) p
