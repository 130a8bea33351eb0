use Rattle.std.proofs.Common.{◌≡◌, ℕ, ℤ, ap, ◌∙◌, arith, rules}
use borrow.Author.Differences.{ints}
use Rattle.line.specs.Code.{word_for, count_after}
use Rattle.line.proofs.Laws.{few_ones, range_true}
use Rattle.line.proofs.code.group.Goals as goal

pub returns : goal.returns
returns c =
    let word = c.word-word.result in
    let few = few_ones word c.word-word.type_inv in
    let range = range_true c.args.count c.requires.count in
    let low = range.0 in
    let high = range.1 in
    let e : word ≡ word_for c.args.table.now c.args.code c.args.count = search rules in
    ap (λ (after : ℤ). (word, after)) (omega (arith, ints)) ∙ ap (λ (w : ℕ). (w, count_after c.args.count w)) e
