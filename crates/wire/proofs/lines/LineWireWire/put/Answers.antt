-- the groups that were pushed carry the frame
use Rattle.std.proofs.Common.{◌≡◌, true, false, length, refl, ap, rules}
use Rattle.wire.specs.declared.lines.LineWire.{LineWire}
use Rattle.wire.proofs.Queues.{line_pushed}
use Rattle.wire.proofs.lines.LineWireWire.put.Goals as goal

pub returns-then-push_back : goal.returns-then-push_back
returns-then-push_back c =
    let frame = c.args.frame.now in
    let before : LineWire = c.args.self.now in
    let after : LineWire = record { counts = c.code-counts.result; queue = c.push_back.new.self } in
    let whole : length frame ≡ 40 = search rules in
    let same : c.in_ok-bytes.bytes.now ≡ frame = search rules in
    let coded = rw same at c.code-counts.ensures in
    let told = c.if-push_back.ensures in
    let pushed = line_pushed before after frame c.code-counts.new.groups c.code-counts.result whole coded true told.test (ap (λ q. q.items) told.queue) refl (ap (λ q. q.room) told.queue) in
    record { answer = search rules; list = pushed.0; own = pushed.1 }

pub returns-else-push_back : goal.returns-else-push_back
returns-else-push_back c =
    let frame = c.args.frame.now in
    let before : LineWire = c.args.self.now in
    let after : LineWire = record { counts = c.args.self.now.counts; queue = c.push_back.new.self } in
    let whole : length frame ≡ 40 = search rules in
    let same : c.in_ok-bytes.bytes.now ≡ frame = search rules in
    let coded = rw same at c.code-counts.ensures in
    let told = c.if-push_back.ensures in
    let pushed = line_pushed before after frame c.code-counts.new.groups c.code-counts.result whole coded false told.test (ap (λ q. q.items) told.queue) refl (ap (λ q. q.room) told.queue) in
    record { answer = search rules; list = pushed.0; own = pushed.1 }
