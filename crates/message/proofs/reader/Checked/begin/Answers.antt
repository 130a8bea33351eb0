use Rattle.std.proofs.Common.{◌≡◌, length, arith}
use Rattle.std.proofs.lemmas.Result.{err_from_is_err_and}
use Rattle.message.proofs.Steps.{begins_not, head_of, begins_bytes, begins_value}
use Rattle.message.proofs.reader.Checked.begin.Goals as goal

pub returns-in_err-heading : goal.returns-in_err-heading
returns-in_err-heading c =
    let p = err_from_is_err_and c.from_residual.result c.from_residual.ensures.1 in
    let o = begins_not c.args.self.now.channel c.args.self.now.tail c.args.self.now.content.now c.args.buffer.now _ c.in_err-heading.ensures in
    rw (p.1, p.2) (record { value = o.0; bytes = o.1 })

pub returns : goal.returns
returns c =
    let content = c.args.self.now.content.now in
    let tail = c.args.self.now.tail in
    let long : length content ≡ 32 = omega arith in
    record {
      value =
          begins_value c.args.self.now.channel tail content _ (length c.args.buffer.now) c.in_ok-heading.heading _ long (head_of content long) c.in_ok-heading.ensures
          c.take_in.ensures.value;
      bytes =
          begins_bytes c.args.self.now.channel tail content _ c.args.buffer.now _ c.in_ok-heading.heading long (head_of content long) c.in_ok-heading.ensures
          c.take_in.ensures.bytes;
    }
