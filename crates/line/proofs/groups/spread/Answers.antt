use Rattle.std.proofs.Common.{ℕ, ◌+◌, ◌*◌, ◌/◌, ◌%◌, get_or, set, sym, ap, ◌∙◌, arith, rules}
use Rattle.std.proofs.lemmas.List.{length-set}
use Rattle.std.proofs.lemmas.List.FromFn.{fill_by_all}
use Rattle.line.specs.Places.{group_at}
use Rattle.line.specs.Groups.{code_at, codes_of}
use Rattle.line.proofs.Nibbles.{nibble, low_nibble, high_nibble, source, code_nibble, groups_once, one_more}
use Rattle.line.proofs.groups.spread.Goals as goal

pub loop-b-preserved : goal.loop-b-preserved
loop-b-preserved c =
    let w = c.args.width in
    let b = c.loop-b.b in
    let frame = c.args.frame.now in
    let groups = c.loop-b.groups in
    let byte = get_or frame b 0 in
    let r = c.groups_of-low.result in
    let len = c.loop-b.invariant.size in
    let once = one_more 80 (group_at w) (groups_once w) groups 0 (nibble frame) (2 * b) r.0 (byte % 16)
    (omega arith) len c.groups_of-low.ensures.low (sym (low_nibble frame b)) c.loop-b.invariant.codes in
    let twice = one_more 80 (group_at w) (groups_once w) (set groups r.0 (byte % 16)) 0 (nibble frame) (2 * b + 1) r.1 (byte / 16)
    (omega arith) (length-set groups r.0 (byte % 16) ∙ len) c.groups_of-low.ensures.high (sym (high_nibble frame b (omega (arith, c.fits-frame b)))) once in
    record { size = search rules; codes = λ h l. twice h (omega arith) }

pub returns : goal.returns
unfolding codes_of
returns c =
    let w = c.args.width in
    let frame = c.args.frame.now in
    let groups = c.loop-b.groups in
    fill_by_all (code_at w frame) groups 80 0 c.loop-b.invariant.size
    (λ g h.
    let r = (groups_once w).reach g h in
    ap (λ (m : ℕ). get_or groups m 0) (sym r.1)
    ∙ c.loop-b.invariant.codes (source w g) (omega (arith, r.0))
    ∙ sym (code_nibble w frame g h))
