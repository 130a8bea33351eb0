use Rattle.std.proofs.Common.{◌≡◌, Ok, arith, rules}
use Rattle.line.specs.Groups.{sent, sent_groups}
use Rattle.line.proofs.Sent.{laws}
use Rattle.line.proofs.groups.frame_to_groups.Goals as goal

pub returns : goal.returns
returns c =
    let frame = c.args.frame.now in
    let before = c.args.groups.now in
    let after = c.code_all.new.groups in
    let r = Ok c.code_all.result in
    let e : r ≡ sent c.args.counts frame before = search rules in
    let f : after ≡ sent_groups c.args.counts frame before = search rules in
    let l = laws c.args.counts frame before after r (λ b. omega (arith, c.type_inv.frame b)) e f in
    record { answer = e; groups = f; stay = l.stay; carried = l.carried; back = l.back }
