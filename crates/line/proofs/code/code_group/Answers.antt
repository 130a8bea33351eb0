use Rattle.std.proofs.Common.{◌≡◌, ℕ, ℤ, pos, negsuc, ◌≤ℤ◌, sym, subst, rules}
use borrow.Author.Differences.{ints}
use Rattle.line.specs.Code.{group_of}
use Rattle.line.proofs.Laws.{stays}
use Rattle.line.proofs.code.code_group.Goals as goal

pub returns-in-Ok-0-to-15-Ok-minus5-to-4-clause-stays : goal.returns-in-Ok-0-to-15-Ok-minus5-to-4-clause-stays
returns-in-Ok-0-to-15-Ok-minus5-to-4-clause-stays c = λ good.
    let rows = c.args.table.now in
    let e : c.group.result ≡ group_of rows c.args.code c.args.count = search rules in
    subst (λ (p : ℕ × ℤ). (negsuc 4 ≤ℤ p.1) × (p.1 ≤ℤ pos 4)) (sym e)
    (stays rows good c.args.code c.args.count (search rules) (search (rules, ints)) (search (rules, ints)))
