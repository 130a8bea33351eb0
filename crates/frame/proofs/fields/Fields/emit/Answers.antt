use Rattle.frame.proofs.Roundtrip.{fields_come_back}
use Rattle.frame.proofs.fields.Fields.emit.Goals as goal

pub returns-in_err-content-clause-back : goal.returns-in_err-content-clause-back
returns-in_err-content-clause-back c = fields_come_back

pub returns-in_err-frame-clause-back : goal.returns-in_err-frame-clause-back
returns-in_err-frame-clause-back c = fields_come_back

pub returns-then-self-gt-MOST_CR-clause-back : goal.returns-then-self-gt-MOST_CR-clause-back
returns-then-self-gt-MOST_CR-clause-back c = fields_come_back

pub returns-clause-back : goal.returns-clause-back
returns-clause-back c = fields_come_back
