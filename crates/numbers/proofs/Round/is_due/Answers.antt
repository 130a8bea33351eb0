use Rattle.std.proofs.Common.{rules}
use Rattle.numbers.proofs.Calls.{right}
use Rattle.numbers.proofs.Round.is_due.Goals as goal

pub returns-clause-right : goal.returns-clause-right
returns-clause-right c = right c.args.self.modulus c.args.tseq c.args.last _ (search rules)
