use Rattle.std.proofs.Common.{ℕ, List, ◌++◌, map, vec_items, sym, refl, ap, ◌∙◌, arith, eq-eqb, ne_eqb}
use Rattle.std.proofs.lemmas.List.{map_push}
use Rattle.text.specs.Pieces.{lines_of, ends_line}
use Rattle.text.proofs.Cuts.{cut_here, inside, at_last, are_lines}
use Rattle.text.proofs.sheet_lines.lines.Goals as goal
use Rattle.text.proofs.sheet_lines.lines.Goals.{then-b-eq10+in_ok-push, else-b-eq10}

pub loop-i-init : goal.loop-i-init
unfolding lines_of
loop-i-init c = (omega arith, rw c.new-pieces.ensures.items refl)

pub loop-i-preserved : goal.loop-i-preserved
loop-i-preserved c =
    elim c.if-b-eq10.branch [
      | then-b-eq10+in_ok-push w ↦
          rw (w.start-is, w.pieces-is)
          (omega arith, cut_here ends_line _ _ _ _ _ _ c.loop-i-test.true (eq-eqb _ 10 w.if-b-eq10.true) (ap (map (λ x. x.now)) w.in_ok-push.ensures.items ∙ map_push (λ x. x.now) _ _) c.loop-i.invariant.1)
      | else-b-eq10 w ↦
          rw (w.start-is, w.pieces-is)
          (omega arith, ap (λ (l : List (List ℕ)). map (λ x. x.now) (vec_items c.loop-i.pieces) ++ l) (sym (inside ends_line _ _ _ c.loop-i.invariant.0 c.loop-i-test.true (ne_eqb _ 10 w.if-b-eq10.false))) ∙ c.loop-i.invariant.1)
    ]

pub returns : goal.returns
returns c =
    are_lines _ _
    (ap (map (λ x. x.now)) c.in_ok-push-2.ensures.items ∙ map_push (λ x. x.now) _ _ ∙ ap (λ (l : List (List ℕ)). map (λ x. x.now) (vec_items c.loop-i.pieces) ++ l) (sym (at_last ends_line _ _ _ c.loop-i-test.false)) ∙ c.loop-i.invariant.1)
