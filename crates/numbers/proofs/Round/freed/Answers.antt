-- each clause follows from the first
use Rattle.std.proofs.Common.{rules}
use Rattle.numbers.proofs.Calls.{found, frees, illegal}
use Rattle.numbers.proofs.Round.freed.Goals as goal

pub returns-then-eq-clause-frees : goal.returns-then-eq-clause-frees
returns-then-eq-clause-frees c = frees c.args.self.modulus c.args.oldest c.args.ever c.args.rseq c.args.last _ (search rules)

pub returns-else-eq-clause-found : goal.returns-else-eq-clause-found
returns-else-eq-clause-found c = found c.args.self.modulus c.args.oldest c.args.ever c.args.rseq c.args.last _ (search rules)

pub returns-else-eq-clause-frees : goal.returns-else-eq-clause-frees
returns-else-eq-clause-frees c = frees c.args.self.modulus c.args.oldest c.args.ever c.args.rseq c.args.last _ (search rules)

pub returns-else-eq-clause-illegal : goal.returns-else-eq-clause-illegal
returns-else-eq-clause-illegal c = illegal c.args.self.modulus c.args.oldest c.args.ever c.args.rseq c.args.last _ (search rules)
