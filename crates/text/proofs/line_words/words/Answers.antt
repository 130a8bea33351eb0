use Rattle.std.proofs.Common.{map, sym, refl, ap, ◌∙◌, arith}
use Rattle.std.proofs.lemmas.List.{map_push}
use Rattle.text.specs.Pieces.{words_of}
use Rattle.text.proofs.Cuts.{word_here, no_word_here, in_word, last_word, no_last_word, are_words}
use Rattle.text.proofs.line_words.words.Goals as goal
use Rattle.text.proofs.line_words.words.Goals.{then-is_separator, else-is_separator, then-start-i+in_ok-push, else-start-i, then-start-line+in_ok-push-2, else-start-line}

pub loop-i-init : goal.loop-i-init
unfolding words_of
loop-i-init c = (omega arith, rw c.new-words.ensures.items refl)

pub loop-i-preserved : goal.loop-i-preserved
loop-i-preserved c =
    elim c.if-is_separator.branch [
      | then-is_separator w ↦
          rw (w.start-is, w.words-is) (
            omega arith,
            elim w.if-start-i.branch [
              | then-start-i+in_ok-push v ↦ rw v.words-is (word_here _ _ _ _ _ _ c.loop-i-test.true (sym w.if-is_separator.ensures) v.if-start-i.true (ap (map (λ x. x.now)) v.in_ok-push.ensures.items ∙ map_push (λ x. x.now) _ _) c.loop-i.invariant.1)
              | else-start-i v ↦ rw v.words-is (no_word_here _ _ _ _ _ c.loop-i-test.true (sym w.if-is_separator.ensures) c.loop-i.invariant.0 v.if-start-i.false c.loop-i.invariant.1)
            ],
          )
      | else-is_separator w ↦
          rw (w.start-is, w.words-is)
          (omega arith, in_word _ _ _ _ _ c.loop-i-test.true (sym w.if-is_separator.ensures) c.loop-i.invariant.0 c.loop-i.invariant.1)
    ]

pub returns : goal.returns
returns c =
    are_words _ _
    (elim c.if-start-line.branch [
      | then-start-line+in_ok-push-2 w ↦ rw w.words-is (last_word _ _ _ _ _ _ c.loop-i-test.false w.if-start-line.true (ap (map (λ x. x.now)) w.in_ok-push-2.ensures.items ∙ map_push (λ x. x.now) _ _) c.loop-i.invariant.1)
      | else-start-line w ↦ rw w.words-is (no_last_word _ _ _ _ _ c.loop-i-test.false c.loop-i.auto.i-end c.loop-i.invariant.0 w.if-start-line.false c.loop-i.invariant.1)
    ])
