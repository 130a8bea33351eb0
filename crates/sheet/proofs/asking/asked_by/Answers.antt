use Rattle.std.proofs.Common.{sym}
use Rattle.sheet.proofs.Words.{no_first}
use Rattle.sheet.proofs.asking.asked_by.Goals as goal

pub returns-in_default : goal.returns-in_default
returns-in_default c = sym (no_first c.args.first.now _ c.in_default.ensures.cases.0)
