use Rattle.link.proofs.Laws.{discarded_logs, legal_frees}
use Rattle.link.proofs.end.End.receive.Goals as goal

pub returns-in_err-received-clause-frees : goal.returns-in_err-received-clause-frees
returns-in_err-received-clause-frees c = legal_frees

pub returns-in_err-received-clause-discarded : goal.returns-in_err-received-clause-discarded
returns-in_err-received-clause-discarded c = discarded_logs

pub returns-clause-discarded : goal.returns-clause-discarded
returns-clause-discarded c = discarded_logs

pub returns-clause-frees : goal.returns-clause-frees
returns-clause-frees c = legal_frees
