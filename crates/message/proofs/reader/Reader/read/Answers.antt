use Rattle.std.proofs.lemmas.Result.{err_from_is_err_and}
use Rattle.message.specs.Reading.{handed}
use Rattle.message.proofs.Steps.{no_channel, no_content, no_kind, goes_on}
use Rattle.message.proofs.reader.Reader.read.Goals as goal

pub returns-in_err-try_from : goal.returns-in_err-try_from
returns-in_err-try_from c =
    let p = err_from_is_err_and c.from_residual.result c.from_residual.ensures.1 in
    rw (p.1, p.2) (no_channel c.args.self.now (handed c.args.taken.now) c.args.buffer.now _ c.in_err-try_from.ensures)

pub returns-in_err-sized : goal.returns-in_err-sized
returns-in_err-sized c =
    let p = err_from_is_err_and c.from_residual-in_err-sized.result c.from_residual-in_err-sized.ensures.1 in
    rw (p.1, p.2) (no_content c.args.self.now (handed c.args.taken.now) c.args.buffer.now _ _ c.in_ok-try_from.ensures c.in_err-sized.ensures)

pub returns-in_err-try_from-2 : goal.returns-in_err-try_from-2
returns-in_err-try_from-2 c =
    let p = err_from_is_err_and c.from_residual-in_err-try_from-2.result c.from_residual-in_err-try_from-2.ensures.1 in
    rw (p.1, p.2)
    (no_kind c.args.self.now (handed c.args.taken.now) c.args.buffer.now _ _ _ c.in_ok-try_from.ensures c.in_ok-sized.ensures c.in_err-try_from-2.ensures)

pub returns : goal.returns
returns c =
    goes_on c.args.self.now (handed c.args.taken.now) c.args.buffer.now _ _ _ _ c.step.result c.step.new.self c.step.new.buffer
    c.in_ok-try_from.ensures c.in_ok-sized.ensures c.in_ok-try_from-2.ensures c.from.ensures c.step.ensures.value c.step.ensures.state c.step.ensures.bytes
