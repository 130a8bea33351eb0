use Rattle.std.proofs.Common.{◌≡◌, ℕ, ◌+◌, ◌*◌, ◌/◌, ap, ◌∙◌, arith}
use Rattle.line.specs.Places.{group_at}
use Rattle.line.proofs.Once.{entry}
use Rattle.line.proofs.Nibbles.{groups_once}
use Rattle.line.proofs.places.groups_of.Goals as goal

pub returns : goal.returns
unfolding group_at
returns c =
    let w = c.args.width in
    let b = c.args.byte in
    let rows = c.places.result.now in
    let low : c.from.result ≡ group_at w (2 * b) =
    c.from.ensures ∙ ap (λ (m : ℕ). m / 4) (entry w rows c.places.ensures b 0 (4 * (2 * b)) c.requires (omega arith) (omega arith)) in
    let high : c.from-2.result ≡ group_at w (2 * b + 1) =
    c.from-2.ensures ∙ ap (λ (m : ℕ). m / 4) (entry w rows c.places.ensures b 4 (4 * (2 * b + 1)) c.requires (omega arith) (omega arith)) in
    let k = (groups_once w).within (2 * b) (omega (arith, c.requires)) in
    let l = (groups_once w).within (2 * b + 1) (omega (arith, c.requires)) in
    record { low = low; high = high; within = (omega arith, omega arith) }
