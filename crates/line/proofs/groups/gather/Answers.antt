use Rattle.std.proofs.Common.{◌≡◌, ℕ, ◌+◌, ◌*◌, ◌<◌, get_or, set, sym, ap, ◌∙◌, subst, ap₂, arith, rules}
use Rattle.std.proofs.lemmas.List.Edits.{fill_by_more}
use Rattle.std.proofs.lemmas.List.FromFn.{fill_by_all}
use Rattle.line.specs.Code.{decoded}
use Rattle.line.specs.Places.{place, group_at}
use Rattle.line.specs.Groups.{number, group_bit, frame_of}
use Rattle.line.proofs.Bytes.{byte}
use Rattle.line.proofs.groups.gather.Goals as goal

pub loop-b-preserved : goal.loop-b-preserved
loop-b-preserved c =
    let w = c.args.width in
    let groups = c.args.groups.now in
    let frame = c.loop-b.frame in
    let b = c.loop-b.b in
    let F : ℕ → ℕ = λ k. number 8 (λ j. group_bit groups (place w (8 * k + j))) in
    let x = c.code_of.result in
    let y = c.code_of-in-loop-b.result in
    let p : x ≡ decoded (get_or groups (group_at w (2 * b)) 0) =
    c.code_of.ensures.is ∙ ap (λ (m : ℕ). decoded (get_or groups m 0)) c.groups_of-low.ensures.low in
    let q : y ≡ decoded (get_or groups (group_at w (2 * b + 1)) 0) =
    c.code_of-in-loop-b.ensures.is ∙ ap (λ (m : ℕ). decoded (get_or groups m 0)) c.groups_of-low.ensures.high in
    let small = subst (λ (m : ℕ). m < 16) p c.code_of.ensures.small in
    let small-too = subst (λ (m : ℕ). m < 16) q c.code_of-in-loop-b.ensures.small in
    let e : x + 16 * y ≡ F b =
    ap₂ (λ (m n : ℕ). m + 16 * n) p q ∙ sym (byte w groups b (omega arith) small small-too) in
    record {
      size = search rules;
      bytes = λ k h. ap (λ (v : ℕ). get_or (set frame b v) k 0) e ∙ fill_by_more F frame b 0 (omega arith) c.loop-b.invariant.bytes k h;
    }

pub returns : goal.returns
unfolding frame_of
returns c =
    fill_by_all (λ k. number 8 (λ j. group_bit c.args.groups.now (place c.args.width (8 * k + j)))) c.loop-b.frame 40 0
    c.loop-b.invariant.size (λ k h. c.loop-b.invariant.bytes k (omega arith))
