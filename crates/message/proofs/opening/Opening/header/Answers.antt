use Rattle.message.proofs.Figures.{loadable_is_made}
use Rattle.message.proofs.opening.Opening.header.Goals as goal

pub returns-in_err-destination-clause-made : goal.returns-in_err-destination-clause-made
returns-in_err-destination-clause-made c = loadable_is_made

pub returns-in_err-source-clause-made : goal.returns-in_err-source-clause-made
returns-in_err-source-clause-made c = loadable_is_made

pub returns-then-self-gt-LONGEST-clause-made : goal.returns-then-self-gt-LONGEST-clause-made
returns-then-self-gt-LONGEST-clause-made c = loadable_is_made

pub returns-clause-made : goal.returns-clause-made
returns-clause-made c = loadable_is_made
